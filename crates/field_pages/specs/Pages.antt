-- A version of the field: its depth, and its samples by layer, page and place.
use Rattle.std.specs.Prelude.{◌≡◌, ℕ, ◌*◌, ◌/◌, ◌<◌, List, [], ℤ, length, slice_index_or}
use Rattle.lattice.specs.declared.point.Point.{Point}
use Rattle.terrain.specs.declared.brush.TheConstants.{MAX_SAMPLE}
use Rattle.terrain.specs.Samples.{Field, IsSample}
use Rattle.lattice.specs.Settings.{IsDepth}
use Rattle.lattice.specs.Point.{IsInWorld}
use Rattle.field_pages.specs.declared.page.TheConstants.{SIDE}
use Rattle.field_pages.specs.Places.{pages_across, layer_at, IsInPages}

-- the layers of pages from the lowest up; in a layer the pages by y, then x; in a page the samples
-- by z, then y, then x
pub record Pages : Type 0 where
  pub depth : ℕ
  pub layers : List (List (List ℤ))

-- the sample at a point
abbrev pub sample_at : Pages → Field
sample_at pages p =
    layer_at (pages_across pages.depth) (slice_index_or pages.layers (p.z / SIDE) []) p

-- a version holds a field: it has the field's sample at each point of the world
abbrev pub HoldsField : Pages → Field → Type 0
HoldsField pages s = (p : Point) → IsInWorld pages.depth p → sample_at pages p ≡ s p

-- each sample of a version lies in the range of samples
abbrev pub HoldsSamples : Pages → Type 0
HoldsSamples pages = (p : Point) → IsInWorld pages.depth p → IsSample (sample_at pages p)

-- what every version keeps: its pages are as many on each axis as they have to be, each sample is
-- in range, and those past the world's end are 127
pub record IsVersion (pages : Pages) : Type 0 where
  pub depth : IsDepth pages.depth
  pub layers : length pages.layers ≡ pages_across pages.depth
  pub rows : (k : ℕ) → k < pages_across pages.depth →
      length (slice_index_or pages.layers k []) ≡
      pages_across pages.depth * pages_across pages.depth
  pub range : (p : Point) → IsInPages (pages_across pages.depth) p → IsSample (sample_at pages p)
  pub padding : (p : Point) → IsInPages (pages_across pages.depth) p
      → (IsInWorld pages.depth p → ⊥) → sample_at pages p ≡ MAX_SAMPLE
