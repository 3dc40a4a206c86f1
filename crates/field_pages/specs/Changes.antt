-- What an edit changes.
use Rattle.std.specs.Prelude.{◌≡◌, ℤ}
use Rattle.lattice.specs.declared.point.Point.{Point}
use Rattle.lattice.specs.declared.region.Region.{Region}
use Rattle.lattice.specs.Region.{IsWithin}
use Rattle.terrain.specs.Samples.{Field, IsSample}

-- an edit gives this for the point and its old sample, and it is a sample
pub record Makes (gives : Point → ℤ → ℤ → Type 0) (p : Point) (old new : ℤ)
    : Type 0 where
  pub given : gives p old new
  pub is_sample : IsSample new

-- among the points of a part of the world, those in a box have what an edit gives for the point and
-- its old sample, and the others have their old sample
pub record Changes (box : Region) (gives : Point → ℤ → ℤ → Type 0)
    (IsHere : Point → Type 0) (old new : Field) : Type 0 where
  pub changed : (p : Point) → IsHere p → IsWithin box p → gives p (old p) (new p)
  pub kept : (p : Point) → IsHere p → (IsWithin box p → ⊥) → new p ≡ old p
