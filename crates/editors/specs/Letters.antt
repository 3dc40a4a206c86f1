-- What is known of a mail that is closed.
-- Source: this project's rule.
use Rattle.std.specs.Prelude.{◌≡◌, ℕ, ◌+◌, true, All, List, [], ◌∷◌, ◌++◌, length, map}
use Rattle.crossbeam_queue.specs.Passes.{view}
use Rattle.editors.specs.declared.clerk.Clerk.{Clerk}
use Rattle.editors.specs.declared.editor.Ended.{Ended}
use Rattle.editors.specs.declared.letters.Letters.{Letters}
use Rattle.editors.specs.declared.note.Note.{Note}
use Rattle.editors.specs.declared.sheet.Sheet.{Sheet}
use Rattle.editors.specs.declared.shown.Shown.{Shown}
use Rattle.editors.specs.Mail.{sent_in_all_by, taken_by}
use Rattle.editors.specs.Notes.{events_in, has_end, notes_by}
use Rattle.editors.specs.Rule.{HasAllNotes}

-- how many events these editors sent in all
abbrev pub sent_count : List Ended → ℕ
sent_count [] = 0
sent_count (ended ∷ more) = length (sent_in_all_by ended) + sent_count more

-- what an editor sent is, in order, what was taken of it and then what is left of it; and nothing is left of one whose
-- end note was taken
pub record IsDelivered (taken left : List Note) (ended : Ended) : Type 0 where
  pub events : sent_in_all_by ended
      ≡ events_in (notes_by ended.number taken) ++ events_in (notes_by ended.number left)
  pub whole : has_end ended.number taken ≡ true → notes_by ended.number left ≡ []

-- the letters of a clerk and all its editors, where these notes were left in the queue: each editor's events arrived or
-- are left, in order and each once, and the numbers are those of events taken and left, together all that were sent
pub record AreLetters (clerk : Clerk) (ended : List Ended) (letters : Letters) (left : List Note)
    : Type 0 where
  pub each : All (IsDelivered (taken_by clerk) left) ended
  pub taken_are : letters.taken ≡ length (events_in (taken_by clerk))
  pub left_are : letters.left ≡ length (events_in left)
  pub all : letters.taken + letters.left ≡ sent_count ended

-- ---- how they are counted

-- what these editors sent
abbrev pub sheets_of : List Ended → List Sheet
sheets_of ended = map (λ (e : Ended). (view e.pass).sheet) ended

-- the clerk's pass once these sheets were handed in
abbrev pub with_sheets : Shown → List Sheet → Shown
with_sheets shown sheets = record shown { sheets = sheets }

-- these notes were left for the clerk whose pass shows this, and so many events were in them
pub record IsEmptied (shown : Shown) (left : List Note) (count : ℕ) : Type 0 where
  pub whole : HasAllNotes (shown.taken ++ left) shown.made shown.sheets
  pub count_is : count ≡ length (events_in left)
