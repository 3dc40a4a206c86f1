-- How many events there are.
use Rattle.std.proofs.Common.{length, sym, ap, ◌∙◌}
use Rattle.std.proofs.lemmas.Result.{err_from_is_err_and}
use Rattle.replicas.specs.Drafts.{draft_of}
use Rattle.replicas.specs.Held.{world_held}
use Rattle.replicas.specs.Reading.{judge_event_count}
use Rattle.replicas.proofs.StageLemmas.{event-count-reads, event-count-refused}
use Rattle.replicas.proofs.draft.Draft.read_event_count.Goals as goal

pub returns-in_err-self-clause-reads : goal.returns-in_err-self-clause-reads
returns-in_err-self-clause-reads c =
    let p = err_from_is_err_and c.from_residual.result c.from_residual.ensures.1 in
    rw (p.1, p.2) (event-count-refused (world_held c.args.held.now) (draft_of c.args.self.now)
    c.args.field.now
    c.requires.draft c.in_err-self.field-0.0 (draft_of c.args.self.now)
    c.requires.stage
    c.requires.size (ap (λ n. judge_event_count n c.args.field.now) (ap length (sym
    c.events.ensures))
    ∙ sym c.in_err-self.ensures))

pub returns-clause-reads : goal.returns-clause-reads
returns-clause-reads c =
    event-count-reads (world_held c.args.held.now) (draft_of c.args.self.now) c.args.field.now
    c.requires.draft c.in_ok-self.field-0 c.requires.stage c.requires.size
    (ap (λ n. judge_event_count n c.args.field.now) (ap length (sym c.events.ensures))
    ∙ sym c.in_ok-self.ensures)
