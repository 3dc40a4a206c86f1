-- So many Stops were pushed.
use Rattle.std.proofs.Common.{◌≡◌, ◌++◌, replicate}
use Rattle.standing_workers.specs.declared.job.Job.TheVariants.{Stop}
use Rattle.standing_workers.specs.Desks.{IsDeskOf, collected_by_desk, popped_by_desk, pushed_by_desk}
use Rattle.standing_workers.proofs.desk.Desk.close.Given as goal

abbrev pub invariant-loop-pushed : goal.invariant-loop-pushed
invariant-loop-pushed g l = record {
  desk : IsDeskOf l.lanes l.self;
  seats_are : l.self.seats ≡ l.fn.self.seats;
  stops : pushed_by_desk l.self ≡ pushed_by_desk l.fn.self ++ replicate l.pushed Stop;
  popped : popped_by_desk l.self ≡ popped_by_desk l.fn.self;
  collected : collected_by_desk l.self ≡ collected_by_desk l.fn.self;
}
