-- The patch of the board after its leaves were meshed, which has the world and the mark from before.
use Rattle.std.proofs.Common.{ap, subst, ◌∙◌}
use Rattle.std.specs.Prelude.{All}
use Rattle.std.specs.Arc.{arc_value}
use Rattle.terrain.specs.Levels.{viewpoints}
use Rattle.block_mesh.specs.Done.{IsDone}
use Rattle.mesh_board.specs.Board.{BoardState}
use Rattle.script_play.proofs.SenderLemmas.{patch-is, patch-same}
use Rattle.script_play.proofs.sender.Sender.patch.Goals as goal

pub returns-clause-patch : goal.returns-clause-patch
returns-clause-patch g c =
    let board = c.settle.new.board in
    let made = c.in_ok-patch in
    let own = subst (All (λ done. IsDone (arc_value done))) c.deref.ensures.value
    c.have_own_meshes.ensures in
    patch-is board made.patch
    (c.maps_of_viewpoints_are_balanced.ensures board.world.settings
    (viewpoints board.world.events))
    c.world-world.ensures.board.marked own made.ensures.base made.ensures.events
    made.ensures.changes made.ensures.bricks
    ∙ patch-same c.args.self.now board
    (c.settle.ensures.world ∙ ap (λ (b : BoardState). b.world) c.self.view_is)
    (c.settle.ensures.marked ∙ ap (λ (b : BoardState). b.marked) c.self.view_is)
