-- A version after a brush.
-- Source: this project's rule.
use Rattle.std.specs.Prelude.{◌≡◌, ℕ}
use Rattle.field_pages.specs.Pages.{HoldsField, Pages, sample_at}
use Rattle.lattice.specs.declared.point.Point.{Point}
use Rattle.lattice.specs.Point.{IsInWorld}
use Rattle.lattice.specs.Region.{IsWithin}
use Rattle.terrain.specs.declared.brush.Brush.{Brush}
use Rattle.terrain.specs.Brushes.{after_brush, region}
use Rattle.terrain.specs.Samples.{Field}

-- a version is what a brush makes of an old one: it is of the same depth, has what the brush makes of each field that
-- the old one has, and off the brush's region the old samples
pub record IsBrushed (brush : Brush) (old new : Pages) : Type 0 where
  pub depth : new.depth ≡ old.depth
  pub rule : (s : Field) → HoldsField old s → HoldsField new (after_brush old.depth brush s)
  pub kept : (p : Point) → IsInWorld old.depth p → (IsWithin (region old.depth brush) p → ⊥)
      → sample_at new p ≡ sample_at old p
