-- What is left for the clerk, note by note.
-- Each note that it takes goes behind those that it took, with its event (`left-more`). Once the queue was empty, it
-- has all notes of the editors that were handed in (`left-all`).
use Rattle.std.proofs.Common.{◌≡◌, ℕ, ◌+◌, true, List, [], ◌∷◌, ◌++◌, length, sym, refl, ap, ◌∙◌, subst, append-nil, append_assoc, length-append, arith}
use Rattle.std.proofs.lemmas.List.{nil_from_length}
use Rattle.crossbeam_queue.specs.Fifo.{Held}
use Rattle.terrain.specs.declared.event.Event.{Event}
use Rattle.editors.specs.declared.note.Note.{Note}
use Rattle.editors.specs.declared.shown.Shown.{Shown}
use Rattle.editors.specs.Letters.{IsEmptied}
use Rattle.editors.specs.Notes.{events_in}
use Rattle.editors.specs.Rule.{Gathers, HasAllNotes}
use Rattle.editors.specs.Shown.{with_taken}
use Rattle.editors.proofs.LetterLemmas.{events_in-append}

-- these notes were taken since a clerk's pass showed the first of two, and so many events were in them
pub record IsLeftSoFar (before now : Shown) (count : ℕ) : Type 0 where
  pub left : List Note
  pub shown : now ≡ record before { taken = before.taken ++ left }
  pub count_is : count ≡ length (events_in left)

-- none at first
pub left-none : (before : Shown) → IsLeftSoFar before before 0
left-none before = record {
  left = [];
  shown = ap (λ (notes : List Note). record before { taken = notes })
      (sym (append-nil before.taken));
  count_is = refl;
}

-- one more
pub left-more : (before now next : Shown) (count : ℕ) (note : Note)
    → IsLeftSoFar before now count → next ≡ with_taken now note
    → IsLeftSoFar before next (count + length (events_in (note ∷ [])))
left-more before now next count note so_far took = record {
  left = so_far.left ++ note ∷ [];
  shown =
      took
      ∙ ap (λ (shown : Shown). with_taken shown note) so_far.shown
      ∙ ap (λ (notes : List Note). record before { taken = notes })
      (append_assoc before.taken so_far.left (note ∷ []));
  count_is = omega (
    arith,
    so_far.count_is,
    ap (λ (events : List Event). length events) (events_in-append so_far.left (note ∷ [])),
    length-append (events_in so_far.left) (events_in (note ∷ [])),
  );
}

-- once the queue was empty, these are all
pub left-all : (before now : Shown) (count : ℕ) → before.takes ≡ true
    → IsLeftSoFar before now count → Held 0 (Gathers now)
    → (left : List Note) × IsEmptied before left count
left-all before now count takes so_far empty =
    let Whole : Shown → Type 0 = λ shown.
    shown.takes ≡ true → HasAllNotes (shown.taken ++ empty.0) shown.made shown.sheets in
    let found = subst Whole so_far.shown empty.2 takes in (
      so_far.left,
      record {
        whole = subst (λ (notes : List Note). HasAllNotes notes before.made before.sheets)
            (ap (λ (items : List Note). (before.taken ++ so_far.left) ++ items)
            (nil_from_length empty.0 empty.1)
            ∙ append-nil (before.taken ++ so_far.left))
            found;
        count_is = so_far.count_is;
      },
    )
