-- How large the numbers are that the code computes for a shape or a smoothing.
use Rattle.std.specs.Prelude.{◌*◌, ℕ, ℤ, pos, neg_ℤ, ◌+ℤ◌, ◌-ℤ◌, ◌≤ℤ◌}
use Rattle.brushes.specs.declared.shape.TheConstants.{FAR}
use Rattle.terrain.specs.declared.brush.TheConstants.{MAX_SAMPLE, SUBCELLS}
use Rattle.terrain.specs.Brushes.{floor_root}

-- how far a point of the largest world can be from one of which a value is made, along an axis
pub record IsInReach (cells : ℤ) : Type 0 where
  pub low : neg_ℤ (pos FAR) ≤ℤ cells
  pub high : cells ≤ℤ pos FAR

-- a ball's value at the points of a square distance from its centre: the root of 256 times it, less 16 times the
-- radius
abbrev pub value_at_square : ℕ → ℕ → ℤ
value_at_square r square =
    pos (floor_root (SUBCELLS * SUBCELLS * square)) -ℤ pos (SUBCELLS * r)

-- the sum of two samples
pub record IsPair (sum : ℤ) : Type 0 where
  pub low : neg_ℤ (MAX_SAMPLE +ℤ MAX_SAMPLE) ≤ℤ sum
  pub high : sum ≤ℤ (MAX_SAMPLE +ℤ MAX_SAMPLE)
