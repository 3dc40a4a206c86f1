-- What contracts see of a mail, its clerk and its editors.
-- Source: this project's rule.
use Rattle.std.specs.Prelude.{◌≡◌, ℕ, ◌<◌, ◌≤◌, true, false, List, [], slice_index_or, length, vec_capacity}
use Rattle.crossbeam_queue.specs.Fifo.{Held}
use Rattle.crossbeam_queue.specs.Passes.{IsPassOf, Pass, ruled_capacity, view}
use Rattle.terrain.specs.declared.event.Event.{Event}
use Rattle.terrain.specs.declared.event.TheConstants.{MAX_EVENTS}
use Rattle.editors.specs.declared.clerk.Clerk.{Clerk}
use Rattle.editors.specs.declared.editor.Editor.{Editor}
use Rattle.editors.specs.declared.editor.Ended.{Ended}
use Rattle.editors.specs.declared.mail.Mail.{Mail}
use Rattle.editors.specs.declared.mail.TheConstants.{MAX_EDITORS, PLACES}
use Rattle.editors.specs.declared.note.Note.{Note}
use Rattle.editors.specs.declared.shown.Shown.{Shown}
use Rattle.editors.specs.Notes.{IsLawfulNote, author, has_end, owners_in}
use Rattle.editors.specs.Rule.{EndsWith, Gathers}

-- the events that an editor sent, in order; and those that one sent in all
abbrev pub sent_by : Editor → List Event
sent_by editor = (view editor.pass).sheet.events

abbrev pub sent_in_all_by : Ended → List Event
sent_in_all_by ended = (view ended.pass).sheet.events

-- the notes that a clerk took, in order
abbrev pub taken_by : Clerk → List Note
taken_by clerk = (view clerk.pass).taken

-- a pass of this mail's queue by which the editor with this number sends
pub record IsEditorsPass (mail : Mail) (number : ℕ) (pass : Pass Note Shown) : Type 0 where
  pub pass_of : IsPassOf mail.queue pass
  pub depth : (view pass).depth ≡ mail.settings.depth
  pub sends : (view pass).sends ≡ true
  pub takes : (view pass).takes ≡ false
  pub number_is : (view pass).sheet.editor ≡ number
  pub places : ruled_capacity mail.queue ≡ PLACES

-- an editor of this mail, which hasn't ended; and one that has
pub record IsEditorOf (mail : Mail) (editor : Editor) : Type 0 where
  pub pass : IsEditorsPass mail editor.number editor.pass
  pub goes_on : (view editor.pass).sheet.has_ended ≡ false

pub record IsEndedOf (mail : Mail) (ended : Ended) : Type 0 where
  pub pass : IsEditorsPass mail ended.number ended.pass
  pub has_ended : (view ended.pass).sheet.has_ended ≡ true

-- at one moment the queue was full, and this editor's notes were those that were taken before and then those in it
abbrev pub WasFull : Editor → Type 0
WasFull editor = Held PLACES (EndsWith (view editor.pass))

-- a pass of this mail's queue by which its clerk takes notes of so many editors
pub record IsClerksPass (mail : Mail) (editors : ℕ) (pass : Pass Note Shown) : Type 0 where
  pub pass_of : IsPassOf mail.queue pass
  pub depth : (view pass).depth ≡ mail.settings.depth
  pub sends : (view pass).sends ≡ false
  pub takes : (view pass).takes ≡ true
  pub made : (view pass).made ≡ editors

-- what a clerk keeps of the notes that it took: who sent their events, with room for as many as a journal may have, and
-- whose end notes are among them
pub record KeepsOf (clerk : Clerk) (notes : List Note) : Type 0 where
  pub owners : clerk.owners.items ≡ owners_in notes
  pub room : MAX_EVENTS < vec_capacity clerk.owners
  pub places : length clerk.ended ≡ MAX_EDITORS
  pub ended : (editor : ℕ) → editor < MAX_EDITORS
      → slice_index_or clerk.ended editor false ≡ has_end editor notes

-- the clerk of this mail, to which no editor was handed in yet
pub record IsClerkOf (mail : Mail) (clerk : Clerk) : Type 0 where
  pub pass : IsClerksPass mail clerk.editors clerk.pass
  pub few : clerk.editors ≤ MAX_EDITORS
  pub none_in : (view clerk.pass).sheets ≡ []
  pub keeps : KeepsOf clerk (taken_by clerk)

-- a clerk took the end note of each editor
abbrev pub HaveAllEnded : Clerk → Type 0
HaveAllEnded clerk =
    (editor : ℕ) → editor < clerk.editors → has_end editor (taken_by clerk) ≡ true

-- at one moment the queue was empty, and all notes that this clerk took are of editors of its mail
abbrev pub WasEmpty : Clerk → Type 0
WasEmpty clerk = Held 0 (Gathers (view clerk.pass))

-- the editors are numbered from 0
abbrev pub AreNumbered : List Editor → Type 0
AreNumbered editors =
    (k : ℕ) (d : Editor) → k < length editors → (slice_index_or editors k d).number ≡ k

-- a note may go into this mail: it is of one of its editors, and its event is lawful in the mail's worlds
pub record IsNoteFor (mail : Mail) (editors : ℕ) (note : Note) : Type 0 where
  pub lawful : IsLawfulNote mail.settings.depth note
  pub by : author note < editors
