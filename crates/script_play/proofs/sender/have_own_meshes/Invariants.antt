-- The blocks so far have their bricks' meshes.
use Rattle.std.proofs.Common.{All, take}
use Rattle.std.specs.Arc.{arc_value}
use Rattle.block_mesh.specs.Done.{IsDone}
use Rattle.script_play.proofs.sender.have_own_meshes.Given as goal

abbrev pub invariant-loop-done : goal.invariant-loop-done
invariant-loop-done l = All (λ done. IsDone (arc_value done)) (take l.done-index l.blocks)
