-- One more job to mesh was popped, or a Stop was popped and pushed again.
use Rattle.std.proofs.Common.{◌+◌, ap, subst, sym, ◌∙◌}
use Rattle.shared_queues.specs.Accounts.{with_popped, with_pushed}
use Rattle.shared_queues.specs.Queues.{entries}
use Rattle.shared_queues.specs.declared.entries.Entries.{Entries}
use Rattle.standing_workers.specs.declared.job.Job.{Job}
use Rattle.standing_workers.specs.declared.job.Job.TheVariants.{Stop}
use Rattle.standing_workers.specs.Desks.{AreCounted}
use Rattle.standing_workers.proofs.DeskLemmas.{counted-stop, counted-stopped, counted-taken}
use Rattle.standing_workers.proofs.desk.Desk.take_back.Goals as goal

pub returns-in-Mesh-clause-desk : goal.returns-in-Mesh-clause-desk
returns-in-Mesh-clause-desk g c =
    let d = c.args.self.now in record {
      jobs = c.in_ok-brick.ensures.account;
      results = c.requires.desk.results;
      counted = subst (λ (shown : Entries Job).
          AreCounted shown (entries d.results) d.seats d.issued (d.collected + 1))
          (sym (c.in_ok-brick.ensures.entries ∙ ap (with_popped (entries d.jobs)) c.in-Mesh.is))
          (counted-taken (entries d.jobs) (entries d.results) d.seats d.issued d.collected
          c.requires.desk.counted c.in-Mesh.ticket c.in-Mesh.brick c.requires.counted);
    }

pub returns-in-Stop-clause-desk : goal.returns-in-Stop-clause-desk
returns-in-Stop-clause-desk g c =
    let d = c.args.self.now in
    let popped = c.in_ok-brick.ensures.entries ∙ ap (with_popped (entries d.jobs)) c.in-Stop.is in
    let pushed = c.push.ensures.entries
    ∙ ap (λ (shown : Entries Job). with_pushed shown Stop) popped in record {
      jobs = c.push.ensures.account;
      results = c.requires.desk.results;
      counted = subst (λ (shown : Entries Job).
          AreCounted shown (entries d.results) d.seats d.issued d.collected)
          (sym pushed)
          (counted-stop (with_popped (entries d.jobs) Stop) (entries d.results) d.seats d.issued
          d.collected
          (counted-stopped (entries d.jobs) (entries d.results) d.seats d.issued d.collected
          c.requires.desk.counted));
    }
