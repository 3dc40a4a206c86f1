-- One block more has its brick's mesh.
use Rattle.std.proofs.Common.{subst}
use Rattle.std.proofs.lemmas.List.{take_all}
use Rattle.std.proofs.lemmas.List.Elements.{All-more}
use Rattle.std.specs.Prelude.{All}
use Rattle.std.specs.Arc.{arc_value}
use Rattle.block_mesh.specs.Done.{IsDone}
use Rattle.script_play.proofs.sender.have_own_meshes.Goals as goal

pub loop-done-preserved : goal.loop-done-preserved
loop-done-preserved c =
    All-more (λ done. IsDone (arc_value done)) c.args.blocks.now c.loop-done.done-index
    c.done-item.result c.loop-done-test.true c.loop-done.invariant
    (subst (λ done. IsDone (arc_value done)) c.done-item.is
    (subst IsDone c.deref.ensures c.node.ensures.done))

pub returns : goal.returns
returns c =
    subst (All (λ done. IsDone (arc_value done)))
    (take_all c.loop-done.done-index c.args.blocks.now c.loop-done-test.false)
    c.loop-done.invariant
