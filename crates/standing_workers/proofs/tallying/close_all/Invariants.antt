-- What the two accounts have got, and what is left to get.
use Rattle.std.proofs.Common.{All}
use Rattle.shared_queues.specs.Queues.{IsAccountOf, entries}
use Rattle.standing_workers.specs.declared.worker_end.WorkerEnd.{WorkerEnd}
use Rattle.standing_workers.specs.Seats.{IsSeatOf}
use Rattle.standing_workers.proofs.TallyLemmas.{GetsFrom}
use Rattle.standing_workers.proofs.tallying.close_all.Given as goal

abbrev pub invariant-loop-end : goal.invariant-loop-end
invariant-loop-end l = record {
  jobs : IsAccountOf l.lanes.jobs l.jobs;
  results : IsAccountOf l.lanes.results l.results;
  seats : All (λ (end : WorkerEnd). IsSeatOf l.lanes end.seat) l.left.items;
  got : GetsFrom (entries l.fn.jobs) (entries l.jobs) (entries l.fn.results) (entries l.results)
      l.fn.ends.items l.left.items;
}

abbrev pub decreases-loop-end : goal.decreases-loop-end
decreases-loop-end l = goal.left-loop-end l
