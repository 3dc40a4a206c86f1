-- What a version's row says of a point that lies in it.
use Rattle.std.specs.Prelude.{◌≡◌, ℕ, ◌+◌, ◌*◌, ◌/◌, ◌<◌, List, ℤ, length, slice_index_or}
use Rattle.lattice.specs.declared.point.Point.{Point}
use Rattle.terrain.specs.Samples.{IsSample}
use Rattle.field_pages.specs.declared.page.TheConstants.{SIDE}
use Rattle.field_pages.specs.Pages.{Pages, sample_at}

-- the row of a page in which a point lies
pub record IsRowOf (pages : Pages) (p : Point) (row : List ℤ) : Type 0 where
  pub len : length row ≡ SIDE
  pub samples : (t : ℕ) (d : ℤ) → t < SIDE →
      slice_index_or row t d
      ≡ sample_at pages (record { z = p.z; y = p.y; x = SIDE * (p.x / SIDE) + t })
  pub range : (t : ℕ) (d : ℤ) → t < SIDE → IsSample (slice_index_or row t d)
