-- The journal of notes that have each editor's list: it is that of their owners.
-- Where the events of each editor among notes are its list, the events of all notes are the next ones in the lists of
-- their owners (`merged`), and each editor owns as many as its list has (`owned`). Once an editor has ended, its
-- list came whole (`came-one`).
use Rattle.std.proofs.Common.{◌≡◌, ℕ, ◌+◌, ◌<◌, ◌≤◌, eqb, Bool, true, false, cond, All, Any, List, [], ◌∷◌, ◌++◌, drop, length, slice_index_or, take, sym, refl, ap, ◌∙◌, subst, append-nil, eq-eqb, ne_eqb, arith}
use Rattle.std.proofs.lemmas.List.Elements.{All-head, All-push, All-same, All-tail}
use Rattle.terrain.specs.declared.event.Event.{Event}
use Rattle.editors.proofs.LetterLemmas.{events_in-append}
use Rattle.editors.specs.Beside.{HasReadAll, HasSentList, behind_next, journal_of, list_of, owned_by}
use Rattle.editors.specs.Letters.{IsDelivered}
use Rattle.editors.specs.Mail.{sent_in_all_by, taken_by}
use Rattle.editors.specs.Notes.{author, events_in, has_end, notes_by, owners_in}
use Rattle.editors.specs.declared.clerk.Clerk.{Clerk}
use Rattle.editors.specs.declared.editor.Ended.{Ended}
use Rattle.editors.specs.declared.mail.Mail.{Mail}
use Rattle.editors.specs.declared.note.Note.{Note}
use Rattle.editors.specs.declared.note.Note.TheVariants.{Ended as EndNote, Sent}

-- ---- the journal

-- an end note has no event
kept : (by n : ℕ) (notes : List Note) (b : Bool)
    → events_in (cond b (EndNote by ∷ notes) notes) ≡ events_in notes
kept by n notes true = refl
kept by n notes false = refl

-- what is left of a list behind the first event of an owner
behind : (list : List Event) (by : ℕ) (event : Event) (notes : List Note) (b : Bool)
    → events_in (cond b (Sent by event ∷ notes) notes) ≡ list
    → events_in notes ≡ cond b (drop 1 list) list
behind list by event notes true is = ap (drop 1) is
behind list by event notes false is = is

-- the events of all notes are the next ones in the lists of their owners
pub merged : (lists : ℕ → List Event) (notes : List Note)
    → ((n : ℕ) → events_in (notes_by n notes) ≡ lists n)
    → journal_of lists (owners_in notes) ≡ events_in notes
merged lists [] each = refl
merged lists (Sent by event ∷ notes) each =
    let own : event ∷ events_in (notes_by by notes) ≡ lists by =
    ap (λ (b : Bool). events_in (cond b (Sent by event ∷ notes_by by notes) (notes_by by notes)))
    (sym (eq-eqb by by refl))
    ∙ each by in
    let rest = merged (behind_next lists by) notes (λ n.
    behind (lists n) by event (notes_by n notes) (eqb by n) (each n)) in
    (λ t. take 1 (sym own t) ++ rest t)
merged lists (EndNote by ∷ notes) each =
    merged lists notes (λ n. sym (kept by n (notes_by n notes) (eqb by n)) ∙ each n)

-- ---- the owners

-- one more event of an owner
counts : (by n count : ℕ) (event : Event) (notes : List Note) (b : Bool)
    → count ≡ length (events_in notes)
    → cond b 1 0 + count ≡ length (events_in (cond b (Sent by event ∷ notes) notes))
counts by n count event notes true is = omega (arith, is)
counts by n count event notes false is = omega (arith, is)

-- each editor owns as many events as there are in its notes
pub owned : (n : ℕ) (notes : List Note)
    → owned_by n (owners_in notes) ≡ length (events_in (notes_by n notes))
owned n [] = refl
owned n (Sent by event ∷ notes) =
    counts by n (owned_by n (owners_in notes)) event (notes_by n notes) (eqb by n) (owned n notes)
owned n (EndNote by ∷ notes) =
    owned n notes ∙ ap length (sym (kept by n (notes_by n notes) (eqb by n)))

-- ---- the notes of a clerk

-- notes of these editors alone are none of a further one's
pub none-beyond : (count n : ℕ) (notes : List Note) → count ≤ n
    → All (λ (note : Note). author note < count) notes → events_in (notes_by n notes) ≡ []
none-beyond count n [] far by = refl
none-beyond count n (note ∷ notes) far by =
    let few = All-head (λ (note : Note). author note < count) note notes by in
    ap (λ (b : Bool). events_in (cond b (note ∷ notes_by n notes) (notes_by n notes)))
    (ne_eqb (author note) n (λ same. omega (arith, same, few, far)))
    ∙ none-beyond count n notes far (All-tail (λ (note : Note). author note < count) note notes by)

-- what was taken of an editor whose end note was, is all that it sent
taken-whole : (taken left : List Note) (ended : Ended) → IsDelivered taken left ended
    → has_end ended.number taken ≡ true
    → events_in (notes_by ended.number taken) ≡ sent_in_all_by ended
taken-whole taken left ended delivered has =
    sym (delivered.events
    ∙ ap (λ (notes : List Note). events_in (notes_by ended.number taken) ++ events_in notes)
    (delivered.whole has)
    ∙ append-nil (events_in (notes_by ended.number taken)))

-- the list of an editor that has ended came whole
pub came-one : (mail : Mail) (taken left : List Note) (lists : List (List Event))
    (ended : List Ended) (n : ℕ) → All (IsDelivered taken left) ended
    → All (HasSentList mail lists) ended → Any (λ (one : Ended). one.number ≡ n) ended
    → has_end n taken ≡ true → events_in (notes_by n taken) ≡ list_of lists n
came-one mail taken left lists ended n delivered sent any has =
    let k = any.0 in
    let one = any.1 in
    let here : slice_index_or ended k one ≡ one = any.3 in
    let mine = subst (IsDelivered taken left) here (delivered k one any.2) in
    let whole = subst (HasSentList mail lists) here (sent k one any.2) in
    subst (λ (m : ℕ). events_in (notes_by m taken) ≡ list_of lists m) any.4
    (taken-whole taken left one mine
    (ap (λ (m : ℕ). has_end m taken) any.4 ∙ has)
    ∙ whole.whole)

-- ---- while they are read

-- one more event is taken and read
pub read-sent : {T : Type 0} (has_read : T → List Event → T → Type 0) (first : T)
    (old new : Clerk) (reader reader' : T) (by : ℕ) (event : Event)
    → taken_by new ≡ taken_by old ++ Sent by event ∷ [] → new.editors ≡ old.editors
    → by < old.editors
    → ((events : List Event) → has_read first events reader
    → has_read first (events ++ event ∷ []) reader')
    → HasReadAll has_read first old reader → HasReadAll has_read first new reader'
read-sent has_read first old new reader reader' by event taken same few grows was =
    let P : Note → Type 0 = λ note. author note < old.editors in record {
      read = subst (λ (events : List Event). has_read first events reader')
          (sym (ap events_in taken ∙ events_in-append (taken_by old) (Sent by event ∷ [])))
          (grows (events_in (taken_by old)) was.read);
      by = subst (λ (count : ℕ). All (λ (note : Note). author note < count) (taken_by new))
          (sym same)
          (All-same P (taken_by new) (taken_by old ++ Sent by event ∷ []) taken
          (All-push P (taken_by old) (Sent by event) was.by few));
    }

-- one more end note is
pub read-ended : {T : Type 0} (has_read : T → List Event → T → Type 0) (first : T)
    (old new : Clerk) (reader : T) (by : ℕ)
    → taken_by new ≡ taken_by old ++ EndNote by ∷ [] → new.editors ≡ old.editors
    → by < old.editors
    → HasReadAll has_read first old reader → HasReadAll has_read first new reader
read-ended has_read first old new reader by taken same few was =
    let P : Note → Type 0 = λ note. author note < old.editors in record {
      read = subst (λ (events : List Event). has_read first events reader)
          (sym (ap events_in taken ∙ events_in-append (taken_by old) (EndNote by ∷ [])
          ∙ append-nil (events_in (taken_by old))))
          was.read;
      by = subst (λ (count : ℕ). All (λ (note : Note). author note < count) (taken_by new))
          (sym same)
          (All-same P (taken_by new) (taken_by old ++ EndNote by ∷ []) taken
          (All-push P (taken_by old) (EndNote by) was.by few));
    }
