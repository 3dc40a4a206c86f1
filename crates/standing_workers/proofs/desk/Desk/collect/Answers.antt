-- One more outcome was popped.
use Rattle.std.proofs.Common.{◌+◌, subst, sym}
use Rattle.shared_queues.specs.Queues.{entries}
use Rattle.shared_queues.specs.declared.entries.Entries.{Entries}
use Rattle.standing_workers.specs.declared.outcome.Outcome.{Outcome}
use Rattle.standing_workers.specs.Desks.{AreCounted}
use Rattle.standing_workers.proofs.DeskLemmas.{counted-collected}
use Rattle.standing_workers.proofs.desk.Desk.collect.Goals as goal

pub returns-clause-desk : goal.returns-clause-desk
returns-clause-desk g c =
    let d = c.args.self.now in record {
      jobs = c.requires.desk.jobs;
      results = c.in_ok-outcome.ensures.account;
      counted = subst (λ (shown : Entries Outcome).
          AreCounted (entries d.jobs) shown d.seats d.issued (d.collected + 1))
          (sym c.in_ok-outcome.ensures.entries)
          (counted-collected (entries d.jobs) (entries d.results) d.seats d.issued d.collected
          c.requires.desk.counted c.in_ok-outcome.outcome c.requires.counted);
    }
