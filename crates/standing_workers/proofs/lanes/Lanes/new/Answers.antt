-- One more seat is a new one.
use Rattle.std.proofs.Common.{ap, arith, ◌∙◌}
use Rattle.std.proofs.lemmas.List.Elements.{All-push, All-same}
use Rattle.shared_queues.specs.declared.entries.Entries.{Entries}
use Rattle.standing_workers.specs.declared.job.Job.{Job}
use Rattle.standing_workers.specs.declared.lanes.Lanes.{Lanes}
use Rattle.standing_workers.specs.declared.outcome.Outcome.{Outcome}
use Rattle.standing_workers.specs.Seats.{IsNewSeat, IsSeatOf}
use Rattle.standing_workers.proofs.lanes.Lanes.new.Goals as goal

pub loop-number-preserved : goal.loop-number-preserved
loop-number-preserved c =
    let so_far = c.loop-number.invariant in
    let jobs = c.seat-seat.ensures.job_entries in
    let results = c.seat-seat.ensures.result_entries in
    let lanes : Lanes = record { jobs = c.in_ok-jobs.jobs; results = c.in_ok-results.results } in
    let seats = c.loop-number.seats.items in record {
      jobs = c.seat-seat.ensures.jobs;
      results = c.seat-seat.ensures.results;
      job_shares = omega (arith, so_far.job_shares, ap (λ (e : Entries Job). e.shares) jobs);
      result_shares =
          omega (arith, so_far.result_shares, ap (λ (e : Entries Outcome). e.shares) results);
      no_job = ap (λ (e : Entries Job). e.pushed) jobs ∙ so_far.no_job;
      none_taken = ap (λ (e : Entries Job). e.popped) jobs ∙ so_far.none_taken;
      no_outcome = ap (λ (e : Entries Outcome). e.pushed) results ∙ so_far.no_outcome;
      none_collected = ap (λ (e : Entries Outcome). e.popped) results ∙ so_far.none_collected;
      seats = All-same (IsSeatOf lanes) _ _ c.in_ok-push.ensures.items
          (All-push (IsSeatOf lanes) seats c.seat-seat.result so_far.seats
          c.seat-seat.ensures.seat);
      new_seats = All-same IsNewSeat _ _ c.in_ok-push.ensures.items
          (All-push IsNewSeat seats c.seat-seat.result so_far.new_seats
          c.seat-seat.ensures.new_seat);
      count = omega (arith, so_far.count, c.in_ok-push.ensures.len);
    }
