-- One more worker's accounts are got.
use Rattle.std.proofs.Common.{List, Some, sym, subst, arith}
use Rattle.std.proofs.lemmas.List.Elements.{All-pop}
use Rattle.shared_queues.specs.Queues.{entries}
use Rattle.shared_queues.specs.declared.entries.Entries.{Entries}
use Rattle.standing_workers.specs.declared.job.Job.{Job}
use Rattle.standing_workers.specs.declared.outcome.Outcome.{Outcome}
use Rattle.standing_workers.specs.declared.worker_end.WorkerEnd.{WorkerEnd}
use Rattle.standing_workers.specs.Seats.{IsSeatOf}
use Rattle.standing_workers.proofs.TallyLemmas.{GetsFrom, gets-all, gets-one, none_of}
use Rattle.standing_workers.proofs.tallying.close_all.Goals as goal

pub loop-end-preserved : goal.loop-end-preserved
loop-end-preserved c =
    let so_far = c.loop-end.invariant in
    let ends = c.args.ends.items in
    let left = c.pop.new.self.items in
    let jobs = entries c.args.jobs.now in
    let results = entries c.args.results.now in
    let then_jobs = entries c.loop-end.jobs in
    let then_results = entries c.loop-end.results in
    let end = c.in-Some.end in
    let parts = All-pop (λ (e : WorkerEnd). IsSeatOf c.args.lanes.now e.seat)
    c.loop-end.left.items left (Some end) c.in-Some.ensures.items so_far.seats in
    let got = subst (λ (xs : List WorkerEnd).
    GetsFrom jobs then_jobs results then_results ends xs)
    c.in-Some.ensures.items so_far.got in record {
      jobs = c.close.ensures.account;
      results = c.close-in-Some.ensures.account;
      seats = parts.0;
      got = subst (λ (y : Entries Job × Entries Outcome). GetsFrom jobs y.0 results y.1 ends left)
          (λ i. (sym c.close.ensures.entries i, sym c.close-in-Some.ensures.entries i))
          (gets-one c.args.lanes.now jobs then_jobs results then_results ends left end parts.1
          got);
    }

pub returns-clause-accounts : goal.returns-clause-accounts
returns-clause-accounts c =
    let left = c.loop-end.left in
    let none = c.in_default.ensures.cases.0 in
    gets-all (entries c.args.jobs.now) (entries c.loop-end.jobs) (entries c.args.results.now)
    (entries c.loop-end.results) c.args.ends.items left.items
    (none_of left.items (omega (arith, none, left.ok.0))) c.loop-end.invariant.got
