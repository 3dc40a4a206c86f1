-- A look more, at a frame that goes on from the frame of the look before, and what a watcher's door counts meanwhile.
-- The frame that a viewer enters begins with the journal of the frame that it has seen (begins-entered), so the counts
-- stay clean (clean-more). Each look is an entry, so the door's count of entries goes up by one with it
-- (count_after-none, count_after-more). The count of a door that is new at the start is then the number of looks
-- (count_after-from_none), and it refused where some are left (risen_from_none).
use Rattle.std.proofs.Common.{◌≡◌, ℕ, zero, suc, ◌+◌, ◌<◌, ◌≤◌, List, [], ◌∷◌, Option, None, Some, All, refl, sym, ap, ◌∙◌, subst, ⊎_elim, add-one, arith}
use Rattle.std.specs.Prelude.{⊤, MatchOption}
use Rattle.std.proofs.Math.Nat.{min-eq_left}
use Rattle.std.proofs.lemmas.List.Elements.{All-get_or}
use Rattle.terrain.specs.declared.event.Event.{Event}
use Rattle.snapshots.specs.Frame.{FrameState, IsSound}
use Rattle.published_frames.specs.declared.past.Past.{Past}
use Rattle.published_frames.specs.Pasts.{BeginsWith, Continues, GoesOnFromAll, past_of}
use Rattle.audits.specs.declared.counts.Counts.{Counts}
use Rattle.fault_counts.specs.Counts.{HasRisen, greatest_count, next_count}
use Rattle.watchers.specs.Looks.{CountsLook, IsClean, count_after}

-- the counts stay clean where the frame goes on
pub clean-more : (before after : Counts) (last : List Event) (frame : FrameState) (made : ℕ)
    → before.looks ≡ made → IsClean before → CountsLook before last frame after
    → after.cracks ≡ before.cracks → BeginsWith frame.events last
    → (after.looks ≡ made + 1) × IsClean after
clean-more before after last frame made so_far clean counted whole begins = (
  omega (arith, counted.looks),
  record {
    whole = whole ∙ clean.whole;
    forward = counted.forward begins ∙ clean.forward;
  },
)

-- the frame that a viewer enters begins with the journal of the frame that it has seen, if there is one
pub begins-entered : {X : Type 0} (state : X → FrameState) (last : Option X) (journal : List Event)
    (seen : List Past) (frame : FrameState)
    → MatchOption last (journal ≡ []) (λ x. journal ≡ (state x).events)
    → MatchOption last ⊤ (λ x. IsSound (state x) × (seen ≡ past_of (state x) ∷ []))
    → GoesOnFromAll frame seen → BeginsWith frame.events journal
begins-entered state None journal seen frame is known later =
    subst (BeginsWith frame.events) (sym is) (frame.events, refl)
begins-entered state (Some x) journal seen frame is known later =
    let all : All (Continues frame) (past_of (state x) ∷ []) =
    subst (GoesOnFromAll frame) known.1 later in
    let one : Continues frame (past_of (state x)) =
    All-get_or (Continues frame) (past_of (state x) ∷ []) 0 (past_of (state x)) (omega arith) all in
    subst (BeginsWith frame.events) (sym is) one.journal

-- none more
pub count_after-none : (count : ℕ) → count_after count 0 ≡ count
unfolding count_after
count_after-none count = refl

-- one more than so many more
pub count_after-more : (count more : ℕ)
    → next_count (count_after count more) ≡ count_after count (more + 1)
unfolding count_after
count_after-more count more =
    subst (λ next. next_count (count_after count more) ≡ count_after count next)
    (sym (add-one more)) refl

-- from 0 the count is that number, as long as it fits
pub count_after-from_none : (more : ℕ) → more ≤ greatest_count → count_after 0 more ≡ more
unfolding count_after
count_after-from_none zero fits = refl
count_after-from_none (suc more) fits =
    ap next_count (count_after-from_none more (omega (arith, fits)))
    ∙ min-eq_left {n = more + 1} {m = greatest_count} (omega (arith, fits)) ∙ add-one more

-- a count that was 0 and rose is above 0
pub risen_from_none : (old new : ℕ) → old ≡ 0 → HasRisen old new → 0 < new
risen_from_none old new none risen =
    ⊎_elim (λ more. omega (arith, none, more)) (λ most. omega (arith, most.1)) risen
