-- Leaves all of whose points have one sample, or samples of one sign; rows and layers of pages. This project's rule.
use Rattle.std.specs.Prelude.{◌≡◌, ℕ, ◌+◌, ◌*◌, ◌/◌, ◌<◌, ◌≤◌, ℤ}
use Rattle.lattice.specs.declared.node.Node.{Node}
use Rattle.lattice.specs.declared.point.Point.{Point}
use Rattle.lattice.specs.Node.{cube, low_corner}
use Rattle.lattice.specs.Region.{IsWithin}
use Rattle.terrain.specs.Samples.{Field, is_solid}
use Rattle.field_pages.specs.declared.page.TheConstants.{SIDE}
use Rattle.bricks.specs.declared.even.Likeness.{Likeness}
use Rattle.bricks.specs.declared.even.Likeness.TheVariants.{Sample, Sign}

-- all points of a leaf's closed cube have the sample of its low corner
abbrev pub IsEvenLeaf : Field → Node → Type 0
IsEvenLeaf s n = (p : Point) → IsWithin (cube n) p → s p ≡ s (low_corner n)

-- all points of a leaf's closed cube have samples of one sign
abbrev pub IsPlainLeaf : Field → Node → Type 0
IsPlainLeaf s n = (p : Point) → IsWithin (cube n) p → is_solid (s p) ≡ is_solid (s (low_corner n))

-- a sample has what samples have in common: it is the one that all are, or has the sign that all have
abbrev pub HasLikeness : Likeness → ℤ → Type 0
HasLikeness (Sample one) sample = sample ≡ one
HasLikeness (Sign solid) sample = is_solid sample ≡ solid

-- a point lies in one of so many pages along x, the first of which begins at a point
pub record IsInPageRow (from : Point) (pages : ℕ) (p : Point) : Type 0 where
  pub z : p.z / SIDE ≡ from.z / SIDE
  pub y : p.y / SIDE ≡ from.y / SIDE
  pub x_low : from.x ≤ p.x
  pub x_high : p.x < from.x + SIDE * pages

-- a point lies in one of so many pages along y and along x, the first of which begins at a point
pub record IsInPageLayer (from : Point) (pages : ℕ) (p : Point) : Type 0 where
  pub z : p.z / SIDE ≡ from.z / SIDE
  pub y_low : from.y ≤ p.y
  pub y_high : p.y < from.y + SIDE * pages
  pub x_low : from.x ≤ p.x
  pub x_high : p.x < from.x + SIDE * pages
