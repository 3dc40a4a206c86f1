-- The fields of an event.
use Rattle.std.proofs.Common.{sym, ap, ◌∙◌, arith}
use Rattle.std.proofs.lemmas.Result.{err_from_is_err_and}
use Rattle.lattice.specs.declared.settings.Settings.{Settings}
use Rattle.replicas.specs.Drafts.{draft_of}
use Rattle.replicas.specs.Held.{world_held}
use Rattle.replicas.specs.Reading.{edits_of, judge_event}
use Rattle.replicas.proofs.StageLemmas.{edits_of-few, event-reads, event-refused}
use Rattle.replicas.proofs.draft.Draft.read_event.Goals as goal

pub edits_after-self-requires : goal.edits_after-self-requires
edits_after-self-requires c =
    let here = c.args.self.now.events.items in
    let before = (world_held c.args.held.now).events in
    omega (
      arith,
      c.requires.draft.edits,
      edits_of-few here (edits_of before 0),
      edits_of-few before 0,
      c.settings.ensures.held.few,
      c.args.self.now.events.ok,
    )

pub returns-in_err-event-clause-reads : goal.returns-in_err-event-clause-reads
returns-in_err-event-clause-reads c =
    let p = err_from_is_err_and c.from_residual.result c.from_residual.ensures.1 in
    rw (p.1, p.2) (event-refused (world_held c.args.held.now) (draft_of c.args.self.now)
    c.args.field.now
    c.requires.draft c.args.tag c.in_err-event.field-0.0 (draft_of c.args.self.now)
    c.requires.stage
    c.requires.size (ap (λ (s : Settings). judge_event s.depth c.args.self.now.in_force c.args.tag
    c.args.field.now)
    (sym c.settings.ensures.value) ∙ sym c.in_err-event.ensures))

pub returns-clause-reads : goal.returns-clause-reads
returns-clause-reads c =
    event-reads (world_held c.args.held.now) (draft_of c.args.self.now) c.args.field.now
    c.requires.draft c.args.tag c.in_ok-event.event c.push.new.self.items c.edits_after-self.result
    c.stage_of_events-self.result c.requires.stage c.requires.size
    (ap (λ (s : Settings). judge_event s.depth c.args.self.now.in_force c.args.tag c.args.field.now)
    (sym c.settings.ensures.value) ∙ sym c.in_ok-event.ensures) c.in_ok-push.ensures.items
    c.edits_after-self.ensures
    c.stage_of_events-self.ensures.value
