-- The leaves that were fresh stay so over each step.
use Rattle.mesh_board.proofs.KeepingLemmas.{keeps-both}
use Rattle.standing_workers.proofs.feeding.settle_more.Goals as goal

pub returns-in_ok-help-clause-board : goal.returns-in_ok-help-clause-board
returns-in_ok-help-clause-board g c =
    keeps-both c.args.board.now c.feed_board.new.board c.help.new.board
    c.in_ok-feed_board.ensures.board c.in_ok-help.ensures.board

pub returns-in_err-help-clause-board : goal.returns-in_err-help-clause-board
returns-in_err-help-clause-board g c =
    keeps-both c.args.board.now c.feed_board.new.board c.help.new.board
    c.in_ok-feed_board.ensures.board c.in_err-help.ensures.board

pub returns-in_ok-mesh_all-clause-board : goal.returns-in_ok-mesh_all-clause-board
returns-in_ok-mesh_all-clause-board g c =
    keeps-both c.args.board.now c.feed_board.new.board c.mesh_all.new.board
    c.in_ok-feed_board.ensures.board c.in_ok-mesh_all.ensures.board

pub returns-in_err-mesh_all-clause-board : goal.returns-in_err-mesh_all-clause-board
returns-in_err-mesh_all-clause-board g c =
    keeps-both c.args.board.now c.feed_board.new.board c.mesh_all.new.board
    c.in_ok-feed_board.ensures.board c.in_err-mesh_all.ensures.board
