-- A ball's values by the square of the distance from its centre.
use Rattle.std.specs.Prelude.{◌≡◌, ℕ, ◌+◌, ◌-◌, ◌*◌, ◌^◌, ◌<◌, ◌≤◌, List, ℤ, length, slice_index_or}
use Rattle.terrain.specs.declared.brush.TheConstants.{MAX_SAMPLE}
use Rattle.terrain.specs.Samples.{clamped_sample}
use Rattle.brushes.specs.Values.{value_at_square}

-- the square distance of the point t places along x from the first of a row, where `across` is that
-- along y and z
abbrev pub row_square : (across x centre t : ℕ) → ℕ
row_square across x centre t =
    let apart : ℕ = (x + t - centre) + (centre - (x + t)) in
    across + apart * apart

-- a list has the clamped values from a square distance on; nearer ones are as the first, and from the
-- last on they are the greatest
pub record AreBallValues (r first : ℕ) (values : List ℤ) : Type 0 where
  pub some : 0 < length values
  pub few : length values < 2 ^ 32
  pub value : (k : ℕ) → k < length values →
      slice_index_or values k MAX_SAMPLE ≡ clamped_sample (value_at_square r (first + k))
  pub nearer : (square : ℕ) → square ≤ first →
      clamped_sample (value_at_square r square) ≡ clamped_sample (value_at_square r first)
  pub further : (square : ℕ) → first + length values ≤ square + 1 →
      clamped_sample (value_at_square r square) ≡ MAX_SAMPLE
