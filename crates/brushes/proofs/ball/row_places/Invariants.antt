-- The places so far are those of the values at the row's points.
use Rattle.std.proofs.Common.{◌≡◌, ℕ, ◌-◌, ◌<◌, min, get_or}
use Rattle.brushes.specs.BallValues.{row_square}
use Rattle.brushes.proofs.ball.row_places.Given as goal

-- the places so far are those at the square distances
abbrev pub invariant-loop-t : goal.invariant-loop-t
invariant-loop-t l = (t : ℕ) → t < l.t →
    get_or l.place-items t 0 ≡ min (row_square l.across l.x l.centre t - l.first) l.last
