-- The keys of a loop begin where the ones before it end, and lie within the keys.
use Rattle.std.proofs.Common.{◌≡◌, ◌-◌, ◌<◌, ◌≤◌, ℕ, zero, suc, List, ◌∷◌, length, slice_index, slice_range, ap, sym, ◌∙◌, arith}
use Rattle.face_curves.proofs.AreEnds.{Rises-from, Rises-at, pieces-at}
use Rattle.face_curves.proofs.loop_list.bounds.Goals as goal
use Rattle.face_curves.proofs.loop_list.bounds.Goals.{After-from-2, then-index-eq0, else-index-eq0}

-- the end before the one at a place that isn't the first
before_place : (ends : List ℕ) (place : ℕ) → 0 < place
    → slice_index ends (place - 1) ≡ slice_index (0 ∷ ends) place
before_place ends zero above = absurd (omega arith)
before_place ends (suc place) above =
    ap (slice_index ends) (let e : suc place - 1 ≡ place = omega arith in e)

-- where the loop begins is the end before it, or 0
from_is : (c : After-from-2) → c.from.result ≡ slice_index (0 ∷ c.args.ends.now) c.args.index
from_is c =
    let ends = c.args.ends.now in
    elim c.if-index-eq0.branch [
      | then-index-eq0 w ↦
          c.from.ensures ∙ w.start-is ∙ sym (ap (slice_index (0 ∷ ends)) w.if-index-eq0.true)
      | else-index-eq0 w ↦
          c.from.ensures ∙ w.start-is
          ∙ before_place ends c.args.index (let above : 0 < c.args.index = omega arith in above)
    ]

-- where the loop ends comes later, and is within the keys
around : (c : After-from-2)
    → (slice_index (0 ∷ c.args.ends.now) c.args.index < slice_index c.args.ends.now c.args.index)
    × (slice_index c.args.ends.now c.args.index ≤ length c.args.keys.now)
around c =
    let ends = c.args.ends.now in
    let last = length c.args.keys.now in
    let rises = Rises-from 0 last ends c.requires.ends.rising c.requires.ends.whole in
    Rises-at 0 last ends c.args.index rises c.requires.index

pub returns-clause-ordered : goal.returns-clause-ordered
returns-clause-ordered c = omega (arith, from_is c, c.from-2.ensures, (around c).0)

pub returns-clause-within : goal.returns-clause-within
returns-clause-within c = omega (arith, c.from-2.ensures, (around c).1)

pub returns-clause-piece : goal.returns-clause-piece
returns-clause-piece c =
    let keys = c.args.keys.now in
    let ends = c.args.ends.now in
    ap (λ k. slice_range keys k c.from-2.result) (from_is c)
    ∙ ap (slice_range keys (slice_index (0 ∷ ends) c.args.index)) c.from-2.ensures
    ∙ sym (pieces-at keys 0 ends c.args.index c.requires.index)
