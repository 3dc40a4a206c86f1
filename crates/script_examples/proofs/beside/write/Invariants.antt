-- It is the same editor.
use Rattle.std.proofs.Common.{◌≡◌}
use Rattle.editors.specs.Mail.{IsEditorOf}
use Rattle.script_examples.proofs.beside.write.Given as goal

abbrev pub invariant-loop-number : goal.invariant-loop-number
invariant-loop-number g l = record {
  editor_of : IsEditorOf l.mail l.editor;
  same : l.editor.number ≡ l.fn.editor.number;
}
