-- The table has those of the sign numbers so far.
use Rattle.block_mesh.specs.CellSteps.{HaveTriangleSteps}
use Rattle.block_mesh.proofs.cell_steps.all_triangles.Given as goal

abbrev pub invariant-loop-signs : goal.invariant-loop-signs
invariant-loop-signs l = HaveTriangleSteps l.signs l.made.items
