-- The editors that are left, and those that have ended.
use Rattle.std.proofs.Common.{◌≡◌, ℕ, ◌<◌, ◌≤◌, All, Any, vec_len}
use Rattle.editors.specs.declared.editor.Ended.{Ended}
use Rattle.editors.specs.Mail.{AreNumbered, IsEditorOf, IsEndedOf}
use Rattle.script_examples.proofs.office.end_all.Given as goal

abbrev pub invariant-loop-editor : goal.invariant-loop-editor
invariant-loop-editor g l = record {
  editors : All (IsEditorOf l.mail) l.left.items;
  numbers : AreNumbered l.left.items;
  ended : All (IsEndedOf l.mail) l.ended.items;
  each : (n : ℕ) → vec_len l.left ≤ n → n < vec_len l.fn.editors
      → Any (λ (one : Ended). one.number ≡ n) l.ended.items;
}

abbrev pub decreases-loop-editor : goal.decreases-loop-editor
decreases-loop-editor g l = vec_len l.left
