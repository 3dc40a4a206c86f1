-- The leaves that were fresh stay so over each step.
use Rattle.std.proofs.Common.{inl}
use Rattle.std.proofs.lemmas.Result.{on_ok_weaker}
use Rattle.mesh_board.proofs.KeepingLemmas.{keeps-both}
use Rattle.standing_workers.proofs.feeding.feed_board.Goals as goal

pub returns-then-is_lost-clause-board : goal.returns-then-is_lost-clause-board
returns-then-is_lost-clause-board g c =
    keeps-both c.args.board.now c.collect_all-is_lost.new.board c.mesh_all.new.board
    c.collect_all-is_lost.ensures.board c.mesh_all.ensures.board

pub returns-then-is_lost-clause-handed : goal.returns-then-is_lost-clause-handed
returns-then-is_lost-clause-handed g c =
    on_ok_weaker c.mesh_all.result (λ none. inl none) c.mesh_all.ensures.handed

pub returns-in_err-hand_out_all-clause-board : goal.returns-in_err-hand_out_all-clause-board
returns-in_err-hand_out_all-clause-board g c =
    keeps-both c.args.board.now c.collect_all-is_lost.new.board c.hand_out_all.new.board
    c.collect_all-is_lost.ensures.board c.in_err-hand_out_all.ensures.board

pub returns-then-can_count-clause-board : goal.returns-then-can_count-clause-board
returns-then-can_count-clause-board g c =
    keeps-both c.args.board.now c.collect_all-is_lost.new.board c.hand_out_all.new.board
    c.collect_all-is_lost.ensures.board c.in_ok-hand_out_all.ensures.board

pub returns-else-can_count-clause-board : goal.returns-else-can_count-clause-board
returns-else-can_count-clause-board g c =
    keeps-both c.args.board.now c.hand_out_all.new.board c.mesh_all-else-can_count.new.board
    (keeps-both c.args.board.now c.collect_all-is_lost.new.board c.hand_out_all.new.board
    c.collect_all-is_lost.ensures.board c.in_ok-hand_out_all.ensures.board)
    c.mesh_all-else-can_count.ensures.board

pub returns-else-can_count-clause-handed : goal.returns-else-can_count-clause-handed
returns-else-can_count-clause-handed g c =
    on_ok_weaker c.mesh_all-else-can_count.result (λ none. inl none)
    c.mesh_all-else-can_count.ensures.handed
