-- Lists that editors send, each its own, and the journal that comes of them.
-- Source: this project's rule.
use Rattle.std.specs.Prelude.{◌≡◌, ℕ, ◌+◌, ◌<◌, ◌≤◌, All, Any, List, [], ◌∷◌, ◌++◌, ◌==◌, drop, if◌then◌else◌, length, slice_index_or, take}
use Rattle.terrain.specs.History.{IsLawfulEvent}
use Rattle.terrain.specs.declared.event.Event.{Event}
use Rattle.editors.specs.declared.clerk.Clerk.{Clerk}
use Rattle.editors.specs.declared.beside.Sent.{Sent}
use Rattle.editors.specs.declared.beside.Sent.TheVariants as sent
use Rattle.editors.specs.declared.editor.Editor.{Editor}
use Rattle.editors.specs.declared.editor.Ended.{Ended}
use Rattle.editors.specs.declared.mail.Mail.{Mail}
use Rattle.editors.specs.Mail.{AreNumbered, IsClerkOf, IsEditorOf, IsEndedOf, sent_by, sent_in_all_by, taken_by}
use Rattle.editors.specs.Notes.{author, events_in}

-- the list of each editor; there is none beyond the last
abbrev pub list_of : List (List Event) → ℕ → List Event
list_of lists editor = slice_index_or lists editor []

-- the lists once the next event of one editor is gone from its own
abbrev pub behind_next : (ℕ → List Event) → ℕ → ℕ → List Event
behind_next lists owner editor =
    if owner == editor then drop 1 (lists editor) else lists editor

-- the journal of these owners: each event is the next one in the list of its owner
abbrev pub journal_of : (ℕ → List Event) → List ℕ → List Event
journal_of lists [] = []
journal_of lists (owner ∷ owners) =
    take 1 (lists owner) ++ journal_of (behind_next lists owner) owners

-- how often an editor is among owners
abbrev pub owned_by : ℕ → List ℕ → ℕ
owned_by editor [] = 0
owned_by editor (owner ∷ owners) = (if owner == editor then 1 else 0) + owned_by editor owners

-- each editor owns as many events as its list has, and nobody else owns any
abbrev pub AreOwners : (ℕ → List Event) → List ℕ → Type 0
AreOwners lists owners = (editor : ℕ) → owned_by editor owners ≡ length (lists editor)

-- ---- while they are sent

-- the clerk of this mail, and a reader of events of its worlds
pub record IsDesk {T : Type 0} (depth : T → ℕ) (mail : Mail) (clerk : Clerk) (reader : T)
    : Type 0 where
  pub clerk_of : IsClerkOf mail clerk
  pub depth_is : depth reader ≡ mail.settings.depth

-- what a reader has read since it was another one are the events that the clerk took, and all notes are of its editors
pub record HasReadAll {T : Type 0} (has_read : T → List Event → T → Type 0) (first : T)
    (clerk : Clerk) (reader : T) : Type 0 where
  pub read : has_read first (events_in (taken_by clerk)) reader
  pub by : All (λ note. author note < clerk.editors) (taken_by clerk)

-- an editor with this number has sent these events and has ended, or it is one that has sent nothing
abbrev pub IsSent : Mail → ℕ → List Event → Sent → Type 0
IsSent mail number events (sent.Whole ended) =
    IsEndedOf mail ended × (ended.number ≡ number) × (sent_in_all_by ended ≡ events)
IsSent mail number events (sent.Back editor) =
    IsEditorOf mail editor × (editor.number ≡ number) × (sent_by editor ≡ [])

-- these editors are numbered from 0 and have sent nothing, and each has a list of lawful events
pub record AreToSend (mail : Mail) (lists : List (List Event)) (editors : List Editor)
    : Type 0 where
  pub each : All (IsEditorOf mail) editors
  pub numbers : AreNumbered editors
  pub new : All (λ editor. sent_by editor ≡ []) editors
  pub enough : length editors ≤ length lists
  pub lawful : All (All (IsLawfulEvent mail.settings.depth)) lists

-- an editor has ended, and has sent just its list
pub record HasSentList (mail : Mail) (lists : List (List Event)) (ended : Ended) : Type 0 where
  pub ended_of : IsEndedOf mail ended
  pub whole : sent_in_all_by ended ≡ list_of lists ended.number

-- so have these, among which are all editors with a number below a count
pub record HaveSentLists (mail : Mail) (lists : List (List Event)) (count : ℕ)
    (ended : List Ended) : Type 0 where
  pub whole : All (HasSentList mail lists) ended
  pub each : (number : ℕ) → number < count → Any (λ one. one.number ≡ number) ended
