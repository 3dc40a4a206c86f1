-- One more Stop was pushed.
use Rattle.std.proofs.Common.{◌++◌, [], ◌∷◌, List, replicate, ap, append_assoc, subst, sym, ◌∙◌}
use Rattle.std.proofs.lemmas.List.{replicate_more}
use Rattle.shared_queues.specs.Queues.{entries}
use Rattle.shared_queues.specs.declared.entries.Entries.{Entries}
use Rattle.standing_workers.specs.declared.job.Job.{Job}
use Rattle.standing_workers.specs.declared.job.Job.TheVariants.{Stop}
use Rattle.standing_workers.specs.Desks.{AreCounted, pushed_by_desk}
use Rattle.standing_workers.proofs.DeskLemmas.{counted-stop}
use Rattle.standing_workers.proofs.desk.Desk.close.Goals as goal

pub loop-pushed-preserved : goal.loop-pushed-preserved
loop-pushed-preserved g c =
    let so_far = c.loop-pushed.invariant in
    let d = c.loop-pushed.self in
    let before = pushed_by_desk c.args.self.now in record {
      desk = record {
        jobs = c.push.ensures.account;
        results = so_far.desk.results;
        counted = subst (λ (shown : Entries Job).
            AreCounted shown (entries d.results) d.seats d.issued d.collected)
            (sym c.push.ensures.entries)
            (counted-stop (entries d.jobs) (entries d.results) d.seats d.issued d.collected
            so_far.desk.counted);
      };
      seats_are = so_far.seats_are;
      stops = ap (λ (shown : Entries Job). shown.pushed) c.push.ensures.entries
          ∙ ap (λ (jobs : List Job). jobs ++ Stop ∷ []) so_far.stops
          ∙ append_assoc before (replicate c.loop-pushed.pushed Stop) (Stop ∷ [])
          ∙ ap (λ (jobs : List Job). before ++ jobs) (replicate_more c.loop-pushed.pushed Stop);
      popped = ap (λ (shown : Entries Job). shown.popped) c.push.ensures.entries
          ∙ so_far.popped;
      collected = so_far.collected;
    }
