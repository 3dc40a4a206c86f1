-- The seats that are left, and the ends of those that worked.
use Rattle.std.proofs.Common.{◌≡◌, ◌+◌, All, vec_len}
use Rattle.standing_workers.specs.declared.worker_end.WorkerEnd.{WorkerEnd}
use Rattle.standing_workers.specs.Seats.{IsSeatOf}
use Rattle.board_examples.proofs.accounts.work_in_turn.Given as goal

abbrev pub invariant-loop-seat : goal.invariant-loop-seat
invariant-loop-seat g l = record {
  seats : All (IsSeatOf l.lanes) l.left.items;
  ended : All (λ (end : WorkerEnd). IsSeatOf l.lanes end.seat) l.ends.items;
  count : vec_len l.ends + vec_len l.left ≡ vec_len l.fn.seats;
}

abbrev pub decreases-loop-seat : goal.decreases-loop-seat
decreases-loop-seat g l = vec_len l.left
