-- What the passes of a mail's queue show, and what each step makes of it.
-- Source: this project's rule.
use Rattle.std.specs.Prelude.{ℕ, ◌+◌, true, false, [], ◌∷◌, ◌++◌}
use Rattle.editors.specs.declared.note.Note.{Note}
use Rattle.editors.specs.declared.note.Note.TheVariants.{Ended, Sent}
use Rattle.editors.specs.declared.sheet.Sheet.{Sheet}
use Rattle.editors.specs.declared.shown.Shown.{Shown}

-- an editor that has sent nothing
abbrev pub new_sheet : ℕ → Sheet
new_sheet editor = record { editor = editor; events = []; has_ended = false }

-- a pass that is nobody's
abbrev pub nothing_shown : Shown
nothing_shown = record {
  depth = 0;
  sends = false;
  sheet = new_sheet 0;
  takes = false;
  made = 0;
  taken = [];
  sheets = [];
}

-- the clerk's pass of a queue that is new
abbrev pub first_shown : Shown
first_shown = record nothing_shown { takes = true }

-- the same once the worlds have this depth
abbrev pub first_of : ℕ → Shown
first_of depth = record first_shown { depth = depth }

-- the clerk's pass once the worlds are deeper by one
abbrev pub deeper : Shown → Shown
deeper shown = record shown { depth = shown.depth + 1 }

-- the clerk's pass once one more editor was made, and the pass of that editor, whose number is the next one
abbrev pub with_made : Shown → Shown
with_made shown = record shown { made = shown.made + 1 }

abbrev pub editor_of : Shown → Shown
editor_of shown =
    record nothing_shown { depth = shown.depth; sends = true; sheet = new_sheet shown.made }

-- what an editor has sent once it sent this note too
abbrev pub sheet_with : Sheet → Note → Sheet
sheet_with sheet (Sent editor event) = record sheet { events = sheet.events ++ event ∷ [] }
sheet_with sheet (Ended editor) = record sheet { has_ended = true }

-- an editor's pass once it sent a note, and the clerk's once it took one
abbrev pub with_note : Shown → Note → Shown
with_note shown note = record shown { sheet = sheet_with shown.sheet note }

abbrev pub with_taken : Shown → Note → Shown
with_taken shown note = record shown { taken = shown.taken ++ note ∷ [] }

-- the clerk's pass once an editor was handed in, by the passes of both
abbrev pub with_sheet : Shown → Shown → Shown
with_sheet shown editor = record shown { sheets = editor.sheet ∷ shown.sheets }
