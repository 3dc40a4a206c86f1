-- The leaves that were fresh stay so over both steps.
use Rattle.mesh_board.proofs.KeepingLemmas.{keeps-both}
use Rattle.standing_workers.proofs.feeding.help.Goals as goal

pub returns-else-receive-clause-board : goal.returns-else-receive-clause-board
returns-else-receive-clause-board g c =
    keeps-both c.args.board.now c.receive.new.board c.mesh_all.new.board c.receive.ensures
    c.mesh_all.ensures.board
