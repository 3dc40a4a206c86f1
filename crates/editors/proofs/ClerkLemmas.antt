-- What a clerk keeps of notes, where one more is taken.
-- An event has one more owner (`owners_in-sent`), and an end note changes no owner. It is the only note that marks an
-- editor, and marks no other one (`has_end-own`, `has_end-other`).
use Rattle.std.proofs.Common.{◌≡◌, ◌≢◌, ℕ, suc, ◌<◌, ◌≤◌, eqb, Bool, true, false, ◌||◌, List, [], ◌∷◌, ◌++◌, length, slice_index_or, slice_set, vec_capacity, refl, sym, ap, ◌∙◌, subst, ⊎_elim, eq-eqb, ne_eqb, arith}
use Rattle.std.proofs.Math.Bool.{or-true}
use Rattle.std.proofs.lemmas.Bool.{cases_eq}
use Rattle.std.proofs.lemmas.List.{get_or-set_other, get_or-set_same, length-set}
use Rattle.terrain.specs.declared.event.Event.{Event}
use Rattle.editors.specs.declared.clerk.Clerk.{Clerk}
use Rattle.editors.specs.declared.note.Note.{Note}
use Rattle.editors.specs.declared.note.Note.TheVariants as note
use Rattle.editors.specs.Mail.{KeepsOf}
use Rattle.editors.specs.Notes.{events_in, has_end, owners_in}

-- who sent the events, with one more note
pub owners_in-sent : (by : ℕ) (event : Event) (notes : List Note)
    → owners_in (notes ++ note.Sent by event ∷ []) ≡ owners_in notes ++ by ∷ []
owners_in-sent by event [] = refl
owners_in-sent by event (note.Sent editor sent ∷ notes) =
    ap (λ (es : List ℕ). editor ∷ es) (owners_in-sent by event notes)
owners_in-sent by event (note.Ended editor ∷ notes) = owners_in-sent by event notes

-- an end note has no event
pub owners_in-ended : (by : ℕ) (notes : List Note)
    → owners_in (notes ++ note.Ended by ∷ []) ≡ owners_in notes
owners_in-ended by [] = refl
owners_in-ended by (note.Sent editor sent ∷ notes) =
    ap (λ (es : List ℕ). editor ∷ es) (owners_in-ended by notes)
owners_in-ended by (note.Ended editor ∷ notes) = owners_in-ended by notes

-- each event has one who sent it
pub length-owners_in : (notes : List Note) → length (owners_in notes) ≡ length (events_in notes)
length-owners_in [] = refl
length-owners_in (note.Sent editor sent ∷ notes) =
    ap suc (length-owners_in notes)
length-owners_in (note.Ended editor ∷ notes) = length-owners_in notes

-- whose end note is among the notes, with one more
pub has_end-sent : (editor by : ℕ) (event : Event) (notes : List Note)
    → has_end editor (notes ++ note.Sent by event ∷ []) ≡ has_end editor notes
has_end-sent editor by event [] = refl
has_end-sent editor by event (note.Sent other sent ∷ notes) = has_end-sent editor by event notes
has_end-sent editor by event (note.Ended other ∷ notes) =
    ap (λ (c : Bool). eqb other editor || c) (has_end-sent editor by event notes)

-- the end note of an editor is there
pub has_end-own : (editor : ℕ) (notes : List Note)
    → has_end editor (notes ++ note.Ended editor ∷ []) ≡ true
has_end-own editor [] = ap (λ (c : Bool). c || false) (eq-eqb editor editor refl)
has_end-own editor (note.Sent by event ∷ notes) = has_end-own editor notes
has_end-own editor (note.Ended by ∷ notes) =
    ap (λ (c : Bool). eqb by editor || c) (has_end-own editor notes) ∙ or-true (eqb by editor)

-- and marks no other editor
pub has_end-other : (editor by : ℕ) (notes : List Note) → by ≢ editor
    → has_end editor (notes ++ note.Ended by ∷ []) ≡ has_end editor notes
has_end-other editor by [] other = ap (λ (c : Bool). c || false) (ne_eqb by editor other)
has_end-other editor by (note.Sent one event ∷ notes) other = has_end-other editor by notes other
has_end-other editor by (note.Ended one ∷ notes) other =
    ap (λ (c : Bool). eqb one editor || c) (has_end-other editor by notes other)

-- ---- what a clerk keeps

-- a clerk keeps who sent an event
pub keeps-sent : (old new : Clerk) (by : ℕ) (event : Event) (notes : List Note)
    → KeepsOf old notes → new.owners.items ≡ old.owners.items ++ by ∷ []
    → vec_capacity old.owners ≤ vec_capacity new.owners → new.ended ≡ old.ended
    → KeepsOf new (notes ++ note.Sent by event ∷ [])
keeps-sent old new by event notes keeps items room same = record {
  owners =
      items ∙ ap (λ (es : List ℕ). es ++ by ∷ []) keeps.owners
      ∙ sym (owners_in-sent by event notes);
  room = omega (arith, keeps.room);
  places = ap (λ (bs : List Bool). length bs) same ∙ keeps.places;
  ended = λ editor within.
      ap (λ (bs : List Bool). slice_index_or bs editor false) same ∙ keeps.ended editor within
      ∙ sym (has_end-sent editor by event notes);
}

-- the mark of an editor once the end note of one was taken
mark-ended : (ended : List Bool) (by editor : ℕ) (notes : List Note) → by < length ended
    → slice_index_or ended editor false ≡ has_end editor notes
    → slice_index_or (slice_set ended by true) editor false
    ≡ has_end editor (notes ++ note.Ended by ∷ [])
mark-ended ended by editor notes within was =
    ⊎_elim (λ (is : by ≡ editor).
    let P : ℕ → Type 0 = λ e.
    slice_index_or (slice_set ended by true) e false ≡ has_end e (notes ++ note.Ended by ∷ []) in
    subst P is (get_or-set_same ended by true false within ∙ sym (has_end-own by notes)))
    (λ (other : by ≢ editor).
    get_or-set_other ended by editor true false (λ is. other (sym is)) ∙ was
    ∙ sym (has_end-other editor by notes other))
    (cases_eq by editor)

-- and that an editor has ended
pub keeps-ended : (old new : Clerk) (by : ℕ) (notes : List Note) → KeepsOf old notes
    → by < length old.ended → new.owners.items ≡ old.owners.items
    → vec_capacity old.owners ≤ vec_capacity new.owners → new.ended ≡ slice_set old.ended by true
    → KeepsOf new (notes ++ note.Ended by ∷ [])
keeps-ended old new by notes keeps within items room marked = record {
  owners = items ∙ keeps.owners ∙ sym (owners_in-ended by notes);
  room = omega (arith, keeps.room);
  places = ap (λ (bs : List Bool). length bs) marked ∙ length-set old.ended by true ∙ keeps.places;
  ended = λ editor few.
      ap (λ (bs : List Bool). slice_index_or bs editor false) marked
      ∙ mark-ended old.ended by editor notes within (keeps.ended editor few);
}
