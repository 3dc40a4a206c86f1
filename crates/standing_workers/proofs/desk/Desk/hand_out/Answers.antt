-- One more job to mesh was pushed.
use Rattle.std.proofs.Common.{◌+◌, subst, sym}
use Rattle.shared_queues.specs.Queues.{entries}
use Rattle.shared_queues.specs.declared.entries.Entries.{Entries}
use Rattle.standing_workers.specs.declared.job.Job.{Job}
use Rattle.standing_workers.specs.Desks.{AreCounted}
use Rattle.standing_workers.proofs.DeskLemmas.{counted-handed}
use Rattle.standing_workers.proofs.desk.Desk.hand_out.Goals as goal

pub returns-clause-desk : goal.returns-clause-desk
returns-clause-desk g c =
    let d = c.args.self.now in record {
      jobs = c.push.ensures.account;
      results = c.requires.desk.results;
      counted = subst (λ (shown : Entries Job).
          AreCounted shown (entries d.results) d.seats (d.issued + 1) d.collected)
          (sym c.push.ensures.entries)
          (counted-handed (entries d.jobs) (entries d.results) d.seats d.issued d.collected
          c.requires.desk.counted c.args.brick c.requires.few c.requires.counted);
    }
