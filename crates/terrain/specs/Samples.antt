-- Samples and fields: a field gives each point a sample, a whole number from -127 to 127; a negative one is solid.
-- Source: the sign rule is that of Marching Cubes (Lorensen and Cline 1987); the range is this project's rule.
use Rattle.std.specs.Prelude.{Bool, true, false, ℤ, pos, negsuc, neg_ℤ, ◌≤ℤ◌}
use Rattle.std.specs.Int.{int_max, int_min}
use Rattle.lattice.specs.declared.point.Point.{Point}
use Rattle.terrain.specs.declared.brush.TheConstants.{MAX_SAMPLE}

-- a field: what the sample at each point is
abbrev pub Field : Type 0
Field = Point → ℤ

-- a sample is solid where it is negative
abbrev pub is_solid : ℤ → Bool
is_solid (pos n) = false
is_solid (negsuc n) = true

-- a sample is from -127 to 127
pub record IsSample (s : ℤ) : Type 0 where
  pub low : neg_ℤ MAX_SAMPLE ≤ℤ s
  pub high : s ≤ℤ MAX_SAMPLE

-- the nearest number from -127 to 127
abbrev pub clamped_sample : ℤ → ℤ
clamped_sample g = int_max (neg_ℤ MAX_SAMPLE) (int_min g MAX_SAMPLE)

-- the field of the empty history is the greatest sample everywhere
abbrev pub opening : Field
opening p = MAX_SAMPLE
