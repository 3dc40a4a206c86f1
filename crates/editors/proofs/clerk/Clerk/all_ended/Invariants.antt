-- The end notes of the editors so far were taken.
use Rattle.std.proofs.Common.{◌≡◌, ◌<◌, ℕ, true}
use Rattle.editors.specs.Mail.{taken_by}
use Rattle.editors.specs.Notes.{has_end}
use Rattle.editors.proofs.clerk.Clerk.all_ended.Given as goal

abbrev pub invariant-loop-editor : goal.invariant-loop-editor
invariant-loop-editor l =
    (editor : ℕ) → editor < l.editor → has_end editor (taken_by l.self) ≡ true
