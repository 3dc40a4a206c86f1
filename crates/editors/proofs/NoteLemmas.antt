-- Notes of one editor, among others.
-- One more note at the back is one more of its author's (`notes_by-own`) and changes nothing for others
-- (`notes_by-other`). Where no editor has a note there is none (`none_by_all`). What an editor sends next goes behind
-- what it has sent (`notes_of-sent`, `notes_of-ended`).
use Rattle.std.proofs.Common.{◌≡◌, ◌≢◌, ℕ, eqb, Bool, true, false, cond, List, [], ◌∷◌, ◌++◌, map, sym, refl, ap, ◌∙◌, ⊎_elim, append-nil, true≢false}
use Rattle.std.proofs.lemmas.Bool.Decides.{eqb_tells}
use Rattle.std.proofs.lemmas.List.{map-append}
use Rattle.std.proofs.lemmas.List.Elements.{filter-append}
use Rattle.terrain.specs.declared.event.Event.{Event}
use Rattle.editors.specs.declared.note.Note.{Note}
use Rattle.editors.specs.declared.note.Note.TheVariants.{Ended, Sent}
use Rattle.editors.specs.Notes.{author, notes_by}

-- whether a note is an editor's
abbrev pub is_by : ℕ → Note → Bool
is_by editor note = eqb (author note) editor

-- it is where that editor is its author
is_by-own : (editor : ℕ) (note : Note) → author note ≡ editor → is_by editor note ≡ true
is_by-own editor note own =
    ⊎_elim (λ (x : (eqb (author note) editor ≡ true) × (author note ≡ editor)). x.0)
    (λ (x : (eqb (author note) editor ≡ false) × (author note ≢ editor)). absurd (x.1 own))
    (eqb_tells (author note) editor)

-- and it isn't where another one is
is_by-other : (editor : ℕ) (note : Note) → author note ≢ editor → is_by editor note ≡ false
is_by-other editor note other =
    ⊎_elim (λ (x : (eqb (author note) editor ≡ true) × (author note ≡ editor)). absurd (other x.1))
    (λ (x : (eqb (author note) editor ≡ false) × (author note ≢ editor)). x.0)
    (eqb_tells (author note) editor)

-- the notes of an editor among two lists, one behind the other
pub notes_by-append : (editor : ℕ) (xs ys : List Note)
    → notes_by editor (xs ++ ys) ≡ notes_by editor xs ++ notes_by editor ys
notes_by-append editor xs ys = filter-append (is_by editor) xs ys

-- one more note, of this editor or of another one
pub notes_by-own : (editor : ℕ) (notes : List Note) (note : Note) → author note ≡ editor
    → notes_by editor (notes ++ note ∷ []) ≡ notes_by editor notes ++ note ∷ []
notes_by-own editor notes note own =
    notes_by-append editor notes (note ∷ [])
    ∙ ap (λ b. notes_by editor notes ++ cond b (note ∷ []) []) (is_by-own editor note own)

-- a note of another editor changes none
pub notes_by-other : (editor : ℕ) (notes : List Note) (note : Note) → author note ≢ editor
    → notes_by editor (notes ++ note ∷ []) ≡ notes_by editor notes
notes_by-other editor notes note other =
    notes_by-append editor notes (note ∷ [])
    ∙ ap (λ b. notes_by editor notes ++ cond b (note ∷ []) []) (is_by-other editor note other)
    ∙ append-nil (notes_by editor notes)

-- a list that has something behind something else isn't empty
pub none_before : (xs : List Note) (note : Note) (ys : List Note) → (xs ++ note ∷ ys) ≢ []
none_before [] note ys is = cc
none_before (x ∷ xs) note ys is = cc

-- an editor has the notes that it sent
pub notes_by-some : (editor : ℕ) (xs : List Note) (note : Note) (ys : List Note)
    → author note ≡ editor → notes_by editor (xs ++ note ∷ ys) ≢ []
notes_by-some editor xs note ys own is =
    none_before (notes_by editor xs) note (notes_by editor ys)
    (ap (λ b. notes_by editor xs ++ cond b (note ∷ notes_by editor ys) (notes_by editor ys))
    (sym (is_by-own editor note own))
    ∙ sym (notes_by-append editor xs (note ∷ ys)) ∙ is)

-- where no editor has a note there is none
pub none_by_all : (notes : List Note) → ((editor : ℕ) → notes_by editor notes ≡ []) → notes ≡ []
none_by_all [] none = refl
none_by_all (note ∷ notes) none =
    absurd (notes_by-some (author note) [] note notes refl (none (author note)))

-- the second of two lists is empty where both together are
pub second_nil : (xs ys : List Note) → xs ++ ys ≡ [] → ys ≡ []
second_nil [] ys is = is
second_nil (x ∷ xs) ys is = cc

-- what an editor has sent, with one more event
pub notes_of-sent : (editor : ℕ) (events : List Event) (has_ended : Bool) (note_editor : ℕ)
    (event : Event) → has_ended ≡ false → note_editor ≡ editor
    → map (Sent editor) (events ++ event ∷ []) ++ cond has_ended (Ended editor ∷ []) []
    ≡ (map (Sent editor) events ++ cond has_ended (Ended editor ∷ []) [])
    ++ Sent note_editor event ∷ []
notes_of-sent editor events true note_editor event goes_on own = absurd (true≢false goes_on)
notes_of-sent editor events false note_editor event goes_on own =
    append-nil (map (Sent editor) (events ++ event ∷ []))
    ∙ map-append (Sent editor) events (event ∷ [])
    ∙ ap (λ (n : ℕ). map (Sent editor) events ++ Sent n event ∷ []) (sym own)
    ∙ ap (λ (notes : List Note). notes ++ Sent note_editor event ∷ [])
    (sym (append-nil (map (Sent editor) events)))

-- and with the end note
pub notes_of-ended : (editor : ℕ) (events : List Event) (has_ended : Bool) (note_editor : ℕ)
    → has_ended ≡ false → note_editor ≡ editor
    → map (Sent editor) events ++ Ended editor ∷ []
    ≡ (map (Sent editor) events ++ cond has_ended (Ended editor ∷ []) []) ++ Ended note_editor ∷ []
notes_of-ended editor events true note_editor goes_on own = absurd (true≢false goes_on)
notes_of-ended editor events false note_editor goes_on own =
    ap (λ (n : ℕ). map (Sent editor) events ++ Ended n ∷ []) (sym own)
    ∙ ap (λ (notes : List Note). notes ++ Ended note_editor ∷ [])
    (sym (append-nil (map (Sent editor) events)))
