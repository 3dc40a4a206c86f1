-- The triangles so far are the first ones.
use Rattle.std.proofs.Common.{◌≡◌, map, take}
use Rattle.block_mesh.specs.CellSteps.{number_step}
use Rattle.block_mesh.proofs.cell_steps.triangles_by_steps.Given as goal

abbrev pub invariant-loop-triangle : goal.invariant-loop-triangle
invariant-loop-triangle l =
    l.steps.items ≡ map (map number_step) (take l.triangle-index l.triangles)
