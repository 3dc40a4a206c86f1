-- What was done so far.
use Rattle.standing_workers.proofs.WorkLemmas.{HasWorked, seat_of}
use Rattle.standing_workers.proofs.working.work.Given as goal

abbrev pub invariant-loop-popped : goal.invariant-loop-popped
invariant-loop-popped g l =
    HasWorked l.lanes l.fn.seat (seat_of l.jobs l.results) l.popped l.made l.lost
