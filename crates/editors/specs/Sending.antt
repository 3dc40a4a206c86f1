-- What an editor may send.
-- Source: this project's rule.
use Rattle.std.specs.Prelude.{◌≡◌, true, false}
use Rattle.editors.specs.declared.note.Note.{Note}
use Rattle.editors.specs.declared.shown.Shown.{Shown}
use Rattle.editors.specs.Notes.{IsLawfulNote, author}

-- an editor may send this note by a pass that shows this: the note is its own, with an event that is lawful in the
-- mail's worlds, and it hasn't ended
pub record MaySend (shown : Shown) (note : Note) : Type 0 where
  pub sends : shown.sends ≡ true
  pub takes : shown.takes ≡ false
  pub goes_on : shown.sheet.has_ended ≡ false
  pub own : author note ≡ shown.sheet.editor
  pub lawful : IsLawfulNote shown.depth note
