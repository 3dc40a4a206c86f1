-- Notes: whose they are, the events in them, and the notes of one editor.
-- Source: this project's rule.
use Rattle.std.specs.Prelude.{ℕ, Bool, false, List, [], ◌∷◌, ◌++◌, ◌==◌, ◌||◌, filter, map, if◌then◌else◌}
use Rattle.terrain.specs.declared.event.Event.{Event}
use Rattle.terrain.specs.History.{IsLawfulEvent}
use Rattle.editors.specs.declared.note.Note.{Note}
use Rattle.editors.specs.declared.note.Note.TheVariants.{Ended, Sent}
use Rattle.editors.specs.declared.sheet.Sheet.{Sheet}

-- whose note it is
abbrev pub author : Note → ℕ
author (Sent editor event) = editor
author (Ended editor) = editor

-- the notes of one editor among these, in order
abbrev pub notes_by : ℕ → List Note → List Note
notes_by editor notes = filter (λ note. author note == editor) notes

-- the events in notes, in order
abbrev pub events_in : List Note → List Event
events_in [] = []
events_in (Sent editor event ∷ notes) = event ∷ events_in notes
events_in (Ended editor ∷ notes) = events_in notes

-- who sent each of them
abbrev pub owners_in : List Note → List ℕ
owners_in [] = []
owners_in (Sent editor event ∷ notes) = editor ∷ owners_in notes
owners_in (Ended editor ∷ notes) = owners_in notes

-- whether the end note of an editor is among these notes
abbrev pub has_end : ℕ → List Note → Bool
has_end editor [] = false
has_end editor (Sent by event ∷ notes) = has_end editor notes
has_end editor (Ended by ∷ notes) = (by == editor) || has_end editor notes

-- the event in a note is lawful in a world of this depth
abbrev pub IsLawfulNote : ℕ → Note → Type 0
IsLawfulNote depth (Sent editor event) = IsLawfulEvent depth event
IsLawfulNote depth (Ended editor) = Unit {0}

-- the notes of an editor that has sent this: one for each event, in order, and the end note last, once it was sent
abbrev pub notes_of : Sheet → List Note
notes_of sheet =
    map (Sent sheet.editor) sheet.events
    ++ (if sheet.has_ended then Ended sheet.editor ∷ [] else [])
