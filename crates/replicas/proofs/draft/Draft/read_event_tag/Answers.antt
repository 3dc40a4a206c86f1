-- The tag of an event.
use Rattle.std.proofs.Common.{sym}
use Rattle.std.proofs.lemmas.Result.{err_from_is_err_and}
use Rattle.replicas.specs.declared.stage.Stage.TheVariants.{Fields}
use Rattle.replicas.specs.Drafts.{draft_of}
use Rattle.replicas.specs.Held.{world_held}
use Rattle.replicas.proofs.StageLemmas.{event-tag-reads, event-tag-refused, reads-then}
use Rattle.replicas.proofs.draft.Draft.read_event_tag.Goals as goal

pub returns-in_err-tag-clause-reads : goal.returns-in_err-tag-clause-reads
returns-in_err-tag-clause-reads c =
    let p = err_from_is_err_and c.from_residual.result c.from_residual.ensures.1 in
    rw (p.1, p.2) (event-tag-refused (world_held c.args.held.now) (draft_of c.args.self.now)
    c.args.field.now c.requires.draft c.in_err-tag.field-0.0 (draft_of c.args.self.now)
    c.requires.stage c.requires.size (sym c.in_err-tag.ensures.value))

pub returns-then-tag-eq-UNDO_TAG-clause-reads : goal.returns-then-tag-eq-UNDO_TAG-clause-reads
returns-then-tag-eq-UNDO_TAG-clause-reads c =
    let world = world_held c.args.held.now in
    let old = draft_of c.args.self.now in
    reads-then world old (record old { stage = Fields c.in_ok-tag.tag })
    (draft_of c.read_event.new.self) c.args.field.now c.read_event.result
    (event-tag-reads world old c.args.field.now c.requires.draft c.in_ok-tag.tag c.requires.stage
    c.requires.size (sym c.in_ok-tag.ensures.value))
    c.read_event.ensures.reads

pub returns-clause-reads : goal.returns-clause-reads
returns-clause-reads c =
    event-tag-reads (world_held c.args.held.now) (draft_of c.args.self.now) c.args.field.now
    c.requires.draft c.in_ok-tag.tag c.requires.stage c.requires.size
    (sym c.in_ok-tag.ensures.value)
