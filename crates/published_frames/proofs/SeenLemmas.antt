-- What a viewer has seen and what it has learnt, taken together: it keeps few frames, and these say as much as all.
-- This serves the clauses of `Viewer::learn` and `enter`.
-- Two journals that are fronts of a third one are fronts of each other one way round (fronts), so of two frames from
-- which a third one goes on, one goes on from the other (comparable). Where one does, the later alone says what both
-- say (later_says, later_says_too); where neither does, no frame goes on from both, and a viewer that learnt of both
-- enters nothing more (never_both, apart_never). What else was seen stays besides (and_the_rest).
use Rattle.std.proofs.Common.{◌≡◌, List, [], ◌∷◌, ◌++◌, ◌⊎◌, ◌↔◌, inl, inr, refl, subst, sym, ◌∙◌, ⊎_elim}
use Rattle.std.proofs.lemmas.List.Elements.{All-append, All-cons, All-head, All-nil, All-tail}
use mathlib.Core.List.{head-eq_of_cons-eq, tail-eq_of_cons-eq}
use Rattle.terrain.specs.declared.event.Event.{Event}
use Rattle.snapshots.specs.Frame.{FrameState}
use Rattle.published_frames.specs.declared.past.Past.{Past}
use Rattle.published_frames.specs.Pasts.{BeginsWith, Continues, GoesOnFromAll, IsAsMuch, past_of}
use Rattle.published_frames.proofs.Publishing.{after}

-- of two fronts of a journal one begins with the other
fronts : (xs r ys s : List Event) → xs ++ r ≡ ys ++ s → BeginsWith xs ys ⊎ BeginsWith ys xs
fronts xs r [] s e = inl (xs, refl)
fronts [] r (y ∷ ys) s e = inr (y ∷ ys, refl)
fronts (x ∷ xs) r (y ∷ ys) s e =
    let same = head-eq_of_cons-eq e in
    ⊎_elim
    (λ longer. inl (longer.0, λ i. same i ∷ longer.1 i))
    (λ longer. inr (longer.0, λ i. sym same i ∷ longer.1 i))
    (fronts xs r ys s (tail-eq_of_cons-eq e))

-- of two frames from which a third one goes on, one goes on from the other
comparable : (frame one other : FrameState) → Continues frame (past_of one)
    → Continues frame (past_of other)
    → Continues one (past_of other) ⊎ Continues other (past_of one)
comparable frame one other from_one from_other =
    ⊎_elim
    (λ begins. inl (record {
      settings = sym from_one.settings ∙ from_other.settings;
      journal = begins;
    }))
    (λ begins. inr (record {
      settings = sym from_other.settings ∙ from_one.settings;
      journal = begins;
    }))
    (fronts one.events from_one.journal.0 other.events from_other.journal.0
    (sym from_one.journal.1 ∙ from_other.journal.1))

-- no frame goes on from two of which neither goes on from the other
pub never_both : (frame one other : FrameState) → (Continues one (past_of other) → ⊥)
    → (Continues other (past_of one) → ⊥) → Continues frame (past_of one)
    → Continues frame (past_of other) → ⊥
never_both frame one other apart back from_one from_other =
    ⊎_elim apart back (comparable frame one other from_one from_other)

-- the frame that goes on from one past goes on from all of it
pub one_is_all : (frame : FrameState) (past : Past)
    → Continues frame past ↔ GoesOnFromAll frame (past ∷ [])
one_is_all frame past = (
  λ step. All-cons (Continues frame) past [] step (All-nil (Continues frame)),
  λ all. All-head (Continues frame) past [] all,
)

-- the same pasts
pub as_much_itself : (seen : List Past) → IsAsMuch seen seen
as_much_itself seen = record { no_less = λ frame all. all; no_more = λ frame all. all }

-- where no frame goes on from either
pub as_much_never : (seen other : List Past) → ((frame : FrameState) → GoesOnFromAll frame seen → ⊥)
    → ((frame : FrameState) → GoesOnFromAll frame other → ⊥) → IsAsMuch seen other
as_much_never seen other none never = record {
  no_less = λ frame all. absurd (none frame all);
  no_more = λ frame all. absurd (never frame all);
}

-- the first of two frames says what both say, where it goes on from the second
pub later_says : (one other : FrameState) → Continues one (past_of other)
    → IsAsMuch (past_of one ∷ []) (past_of one ∷ past_of other ∷ [])
later_says one other step = record {
  no_less = λ frame all.
      let from_one = All-head (Continues frame) (past_of one) [] all in
      All-cons (Continues frame) (past_of one) (past_of other ∷ []) from_one
      (All-cons (Continues frame) (past_of other) [] (after frame one (past_of other) step from_one)
      (All-nil (Continues frame)));
  no_more = λ frame all.
      All-cons (Continues frame) (past_of one) []
      (All-head (Continues frame) (past_of one) (past_of other ∷ []) all)
      (All-nil (Continues frame));
}

-- and so does the second, where it goes on from the first
pub later_says_too : (one other : FrameState) → Continues other (past_of one)
    → IsAsMuch (past_of other ∷ []) (past_of one ∷ past_of other ∷ [])
later_says_too one other step = record {
  no_less = λ frame all.
      let from_other = All-head (Continues frame) (past_of other) [] all in
      All-cons (Continues frame) (past_of one) (past_of other ∷ [])
      (after frame other (past_of one) step from_other) all;
  no_more = λ frame all. All-tail (Continues frame) (past_of one) (past_of other ∷ []) all;
}

-- no frame goes on from two that are apart, whatever else was seen
pub apart_never : (one other : FrameState) (rest : List Past)
    → (Continues one (past_of other) → ⊥) → (Continues other (past_of one) → ⊥)
    → (frame : FrameState)
    → GoesOnFromAll frame (past_of one ∷ past_of other ∷ rest) → ⊥
apart_never one other rest apart back frame all =
    never_both frame one other apart back
    (All-head (Continues frame) (past_of one) (past_of other ∷ rest) all)
    (All-head (Continues frame) (past_of other) rest
    (All-tail (Continues frame) (past_of one) (past_of other ∷ rest) all))

-- what follows is seen besides
pub and_the_rest : (seen other rest : List Past) → IsAsMuch seen other
    → IsAsMuch (seen ++ rest) (other ++ rest)
and_the_rest seen other rest much = record {
  no_less = λ frame all.
      All-append (Continues frame) other rest (much.no_less frame (front_of frame seen rest all))
      (rest_of frame seen rest all);
  no_more = λ frame all.
      All-append (Continues frame) seen rest (much.no_more frame (front_of frame other rest all))
      (rest_of frame other rest all);
}
  where
    front_of : (frame : FrameState) (front rest : List Past)
        → GoesOnFromAll frame (front ++ rest) → GoesOnFromAll frame front
    front_of frame [] rest all = All-nil (Continues frame)
    front_of frame (past ∷ front) rest all =
        All-cons (Continues frame) past front (All-head (Continues frame) past (front ++ rest) all)
        (front_of frame front rest (All-tail (Continues frame) past (front ++ rest) all))

    rest_of : (frame : FrameState) (front rest : List Past)
        → GoesOnFromAll frame (front ++ rest) → GoesOnFromAll frame rest
    rest_of frame [] rest all = all
    rest_of frame (past ∷ front) rest all =
        rest_of frame front rest (All-tail (Continues frame) past (front ++ rest) all)

-- what goes on from the one past that is known goes on from it
pub knows : (known : List Past) (last : FrameState) → known ≡ past_of last ∷ []
    → (frame : FrameState) → GoesOnFromAll frame known → Continues frame (past_of last)
knows known last is frame all =
    All-head (Continues frame) (past_of last) [] (subst (GoesOnFromAll frame) is all)
