-- The rule of a mail's queue.
-- Source: this project's rule.
use Rattle.std.specs.Prelude.{◌≡◌, ◌≢◌, ℕ, ◌≤◌, true, All, List, [], ◌∷◌, ◌++◌}
use mathlib.Core.Option.{some}
use lib.ListN.{get_elem?}
use Rattle.editors.specs.declared.note.Note.{Note}
use Rattle.editors.specs.declared.sheet.Sheet.{Sheet}
use Rattle.editors.specs.declared.shown.Shown.{Shown}
use Rattle.editors.specs.Notes.{IsLawfulNote, notes_by, notes_of}

-- none of these sheets is this editor's
abbrev pub IsOff : ℕ → List Sheet → Type 0
IsOff editor [] = Unit {0}
IsOff editor (sheet ∷ sheets) = (sheet.editor ≢ editor) × IsOff editor sheets

-- these are sheets of different editors, each of which has its editor's notes among these
abbrev pub AreSheets : List Note → List Sheet → Type 0
AreSheets notes [] = Unit {0}
AreSheets notes (sheet ∷ sheets) =
    (notes_by sheet.editor notes ≡ notes_of sheet) × IsOff sheet.editor sheets
    × AreSheets notes sheets

-- the editors of these sheets are at this place
abbrev pub AreAt : (ℕ → ℕ) → ℕ → List Sheet → Type 0
AreAt seat place [] = Unit {0}
AreAt seat place (sheet ∷ sheets) = (seat sheet.editor ≡ place) × AreAt seat place sheets

-- the pass at this place is its editor's, and the editor's notes among these are those that it sent
pub record FitsEditor (depth : ℕ) (seat : ℕ → ℕ) (notes : List Note) (place : ℕ) (shown : Shown)
    : Type 0 where
  pub depth_is : shown.depth ≡ depth
  pub seat_is : seat shown.sheet.editor ≡ place
  pub notes_are : notes_by shown.sheet.editor notes ≡ notes_of shown.sheet

-- the pass at this place is the clerk's, which took what was taken; no note is of an editor that isn't made yet, and
-- those of the editors that were handed in are on their sheets
pub record FitsClerk (depth clerk : ℕ) (seat : ℕ → ℕ) (taken notes : List Note) (place : ℕ)
    (shown : Shown) : Type 0 where
  pub place_is : place ≡ clerk
  pub depth_is : shown.depth ≡ depth
  pub taken_are : shown.taken ≡ taken
  pub others : (editor : ℕ) → shown.made ≤ editor
      → (seat editor ≡ clerk) × (notes_by editor notes ≡ [])
  pub handed_in : AreAt seat clerk shown.sheets
  pub sheets : AreSheets notes shown.sheets

-- the rule: events in the queue are lawful, and the notes of each editor, in order, are those that the clerk took and
-- then those in the queue. Each editor is at the place of its own pass (`seat`), or at the clerk's where it isn't made
-- yet or was handed in
pub record DeliversInOrder (items : List Note) (passes : List Shown) : Type 0 where
  pub depth : ℕ
  pub clerk : ℕ
  pub seat : ℕ → ℕ
  pub taken : List Note
  pub lawful : All (IsLawfulNote depth) items
  pub editors : (place : ℕ) (shown : Shown) → get_elem? passes place ≡ some shown
      → shown.sends ≡ true → FitsEditor depth seat (taken ++ items) place shown
  pub clerks : (place : ℕ) (shown : Shown) → get_elem? passes place ≡ some shown
      → shown.takes ≡ true → FitsClerk depth clerk seat taken (taken ++ items) place shown

-- ---- what the rule tells of what is in the queue

-- an editor's notes are those that were taken before, and then its notes in the queue
abbrev pub EndsWith : Shown → List Note → Type 0
EndsWith shown items =
    shown.sends ≡ true
    → (taken : List Note)
    × (notes_by shown.sheet.editor (taken ++ items) ≡ notes_of shown.sheet)

-- what the clerk took and what is in the queue are together the notes on the sheets of the editors that were handed in
pub record HasAllNotes (notes : List Note) (made : ℕ) (sheets : List Sheet) : Type 0 where
  pub sheets_are : AreSheets notes sheets
  pub others : (editor : ℕ) → made ≤ editor → notes_by editor notes ≡ []

abbrev pub Gathers : Shown → List Note → Type 0
Gathers shown items =
    shown.takes ≡ true → HasAllNotes (shown.taken ++ items) shown.made shown.sheets
