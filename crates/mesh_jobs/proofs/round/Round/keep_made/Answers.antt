-- The block has a present brick, and what was fresh stays so with the block that it had.
use Rattle.std.proofs.Common.{subst}
use Rattle.std.specs.Arc.{arc_value}
use Rattle.block_mesh.specs.Done.{IsDone}
use Rattle.mesh_board.specs.Board.{IsPresentBrick}
use Rattle.mesh_board.specs.declared.verdict.Verdict.TheVariants.{Kept}
use Rattle.mesh_board.proofs.KeepingLemmas.{keeps-delivered}
use Rattle.mesh_jobs.proofs.RoundLemmas.{made-present}
use Rattle.mesh_jobs.proofs.round.Round.keep_made.Goals as goal

pub keep_present-requires : goal.keep_present-requires
keep_present-requires c =
    let field = c.version.ensures in
    let map = c.levels.ensures in
    made-present c.args.board.now c.world-world.result.now c.version.result.now.value
    c.levels.result.now.value c.args.self.now (arc_value c.args.done)
    c.bricks_read_their_leaf.ensures.world c.world-world.ensures.value field.value field.depth
    field.samples map.value map.depth map.split c.requires.round c.requires.made

pub returns : goal.returns
returns c =
    let field = c.version.ensures in
    let map = c.levels.ensures in
    let present : IsPresentBrick c.args.board.now (arc_value c.args.done).brick =
    made-present c.args.board.now c.world-world.result.now c.version.result.now.value
    c.levels.result.now.value c.args.self.now (arc_value c.args.done)
    c.bricks_read_their_leaf.ensures.world c.world-world.ensures.value field.value field.depth
    field.samples map.value map.depth map.split c.requires.round c.requires.made in
    keeps-delivered c.equal_bricks_have_equal_meshes.ensures c.args.board.now
    c.keep_present.new.self (arc_value c.args.done) Kept c.world-world.ensures.board
    (subst IsDone c.deref.ensures c.node.ensures.done) (present, c.keep_present.ensures)
