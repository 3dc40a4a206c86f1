-- The events that were sent so far.
use Rattle.std.proofs.Common.{◌≡◌, ◌++◌, take}
use Rattle.editors.specs.Mail.{IsEditorOf, sent_by}
use Rattle.editors.proofs.sending.post_all.Given as goal

abbrev pub invariant-loop-event : goal.invariant-loop-event
invariant-loop-event g l = record {
  editor : IsEditorOf l.mail l.editor;
  number : l.editor.number ≡ l.fn.editor.number;
  sent : sent_by l.editor ≡ sent_by l.fn.editor ++ take l.event-index l.events;
}
