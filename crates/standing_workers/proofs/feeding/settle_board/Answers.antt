-- The leaves that were fresh are fresh after one turn more.
use Rattle.std.proofs.Common.{◌∙◌}
use Rattle.mesh_board.proofs.KeepingLemmas.{keeps-both}
use Rattle.standing_workers.proofs.feeding.settle_board.Goals as goal

pub loop-preserved : goal.loop-preserved
loop-preserved g c = record {
  desk_of = c.in_ok-settle_more.ensures.desk;
  seats = c.in_ok-settle_more.ensures.seats ∙ c.loop.invariant.seats;
  kept = keeps-both c.args.board.now c.loop.board c.settle_more.new.board
      c.loop.invariant.kept c.in_ok-settle_more.ensures.board;
}

pub returns-in_err-settle_more-clause-board : goal.returns-in_err-settle_more-clause-board
returns-in_err-settle_more-clause-board g c =
    keeps-both c.args.board.now c.loop.board c.settle_more.new.board
    c.loop.invariant.kept c.in_err-settle_more.ensures.board

pub returns-then-branch-clause-board : goal.returns-then-branch-clause-board
returns-then-branch-clause-board g c =
    keeps-both c.args.board.now c.loop.board c.settle_more.new.board
    c.loop.invariant.kept c.in_ok-settle_more.ensures.board
