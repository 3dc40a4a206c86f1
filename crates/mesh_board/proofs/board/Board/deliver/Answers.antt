-- What is fresh stays fresh with the block that it has.
use Rattle.std.proofs.Common.{subst}
use Rattle.std.specs.Arc.{arc_value}
use Rattle.block_mesh.specs.Done.{IsDone}
use Rattle.mesh_board.proofs.KeepingLemmas.{keeps-delivered}
use Rattle.mesh_board.proofs.board.Board.deliver.Goals as goal

pub returns-clause-keeps : goal.returns-clause-keeps
returns-clause-keeps c =
    keeps-delivered c.equal_bricks_have_equal_meshes.ensures c.args.self.now c.judge.new.self
    (arc_value c.args.done) c.judge.result c.world.ensures.board
    (subst IsDone c.deref.ensures c.node.ensures.done) c.judge.ensures.verdict
