-- Pages that have one sample at each of their points of the world.
-- Source: this project's rule.
use Rattle.std.specs.Prelude.{◌≡◌, ℕ, ◌/◌, ◌%◌, ◌<◌, ◌≤◌, List, ℤ, if◌then◌else◌, map, nat_lt, slice_index_or}
use Rattle.std.specs.List.{range_with_len}
use Rattle.terrain.specs.declared.brush.TheConstants.{MAX_SAMPLE}
use Rattle.field_pages.specs.declared.even.EvenPage.{EvenPage}
use Rattle.field_pages.specs.declared.even.Extent.{Extent}
use Rattle.field_pages.specs.declared.page.TheConstants.{COUNT, SIDE}

-- a page has at least one point of the world along each axis, and at most so many points
pub record IsExtent (e : Extent) : Type 0 where
  pub z : 1 ≤ e.z
  pub z_few : e.z ≤ SIDE
  pub y : 1 ≤ e.y
  pub y_few : e.y ≤ SIDE
  pub x : 1 ≤ e.x
  pub x_few : e.x ≤ SIDE

-- how many points of the world a page's row of this number has
abbrev pub row_count : Extent → ℕ → ℕ
row_count e row =
    if nat_lt (row / SIDE) e.z then (if nat_lt (row % SIDE) e.y then e.x else 0) else 0

-- a place of a page is that of a point of the world
abbrev pub IsWorldPlace : Extent → ℕ → Type 0
IsWorldPlace e k = k % SIDE < row_count e (k / SIDE)

-- the sample at a place of a page that has this one at its points of the world
abbrev pub even_at : Extent → ℤ → ℕ → ℤ
even_at e sample k = if nat_lt (k % SIDE) (row_count e (k / SIDE)) then sample else MAX_SAMPLE

-- the samples of such a page
unfoldable pub even_list : EvenPage → List ℤ
even_list page = map (even_at page.extent page.sample) (range_with_len 0 COUNT)

-- the samples of a page past the world's end are 127
abbrev pub ArePadded : Extent → List ℤ → Type 0
ArePadded e samples = (k : ℕ) → k < COUNT → (IsWorldPlace e k → ⊥)
    → slice_index_or samples k MAX_SAMPLE ≡ MAX_SAMPLE
