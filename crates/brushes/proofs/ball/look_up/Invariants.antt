-- The values before a place are the items at their places.
use Rattle.std.proofs.Common.{◌≡◌, ◌<◌, ℕ, get_or}
use Rattle.terrain.specs.declared.brush.TheConstants.{MAX_SAMPLE}
use Rattle.brushes.proofs.ball.look_up.Given as goal

-- the values so far are looked up
abbrev pub invariant-loop-t : goal.invariant-loop-t
invariant-loop-t l = (t : ℕ) → t < l.t →
    get_or l.values t MAX_SAMPLE ≡ get_or l.items (get_or l.places t 0) MAX_SAMPLE
