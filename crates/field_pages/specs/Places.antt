-- Where a sample is kept: in the page that its point lies in, and there by z, then y, then x.
use Rattle.std.specs.Prelude.{◌≡◌, ℕ, ◌+◌, ◌*◌, ◌/◌, ◌%◌, ◌^◌, ◌<◌, ◌≤◌, List, [], ℤ, map, slice_index_or}
use Rattle.lattice.specs.declared.point.Point.{Point}
use Rattle.lattice.specs.declared.region.Region.{Region}
use Rattle.terrain.specs.declared.brush.TheConstants.{MAX_SAMPLE}
use Rattle.field_pages.specs.declared.page.TheConstants.{COUNT, PART, SIDE}

-- how many pages there are in a row
abbrev pub pages_across : ℕ → ℕ
pages_across depth = 2 ^ depth + 1

-- the index of a point's sample in its page
abbrev pub index_in_page : Point → ℕ
index_in_page p = (p.z % SIDE * SIDE + p.y % SIDE) * SIDE + p.x % SIDE

-- the sample that a page has for a point
abbrev pub page_at : List ℤ → Point → ℤ
page_at page p = slice_index_or page (index_in_page p) MAX_SAMPLE

-- all samples of a page are equal
abbrev pub IsEven : List ℤ → Type 0
IsEven page =
    (k : ℕ) → k < COUNT → slice_index_or page k MAX_SAMPLE ≡ slice_index_or page 0 MAX_SAMPLE

-- two pages have the same samples off the planes of points from one number along z to another
abbrev pub IsSameOff : (first end : ℕ) → (a b : List ℤ) → Type 0
IsSameOff first end a b =
    (k : ℕ) → k < COUNT → (first * PART ≤ k → k < end * PART → ⊥)
    → slice_index_or a k MAX_SAMPLE ≡ slice_index_or b k MAX_SAMPLE

-- the number of a point's page in its layer, which has so many pages in a row
abbrev pub page_number : ℕ → Point → ℕ
page_number across p = p.y / SIDE * across + p.x / SIDE

-- the sample that a layer of pages has for a point
abbrev pub layer_at : ℕ → List (List ℤ) → Point → ℤ
layer_at across layer p = page_at (slice_index_or layer (page_number across p) []) p

-- the low corner of the page in which a point lies
abbrev pub page_corner : Point → Point
page_corner p =
    record { z = p.z / SIDE * SIDE; y = p.y / SIDE * SIDE; x = p.x / SIDE * SIDE }

-- the samples at the low corners of pages
abbrev pub corner_samples : List (List ℤ) → List ℤ
corner_samples pages = map (λ page. slice_index_or page 0 MAX_SAMPLE) pages

-- two points lie in one page
pub record IsInSamePage (p q : Point) : Type 0 where
  pub z : q.z / SIDE ≡ p.z / SIDE
  pub y : q.y / SIDE ≡ p.y / SIDE
  pub x : q.x / SIDE ≡ p.x / SIDE

-- a point lies in one of the pages, of which there are so many in a row
pub record IsInPages (across : ℕ) (p : Point) : Type 0 where
  pub z_end : p.z < SIDE * across
  pub y_end : p.y < SIDE * across
  pub x_end : p.x < SIDE * across

-- a point lies in the world that has so many pages in a row: of the last page it has the first points alone
pub record IsPoint (across : ℕ) (p : Point) : Type 0 where
  pub z_end : p.z + SIDE ≤ SIDE * across
  pub y_end : p.y + SIDE ≤ SIDE * across
  pub x_end : p.x + SIDE ≤ SIDE * across

-- a box of points of the world that has so many pages in a row
pub record IsBox (across : ℕ) (box : Region) : Type 0 where
  pub z : box.lo.z ≤ box.hi.z
  pub y : box.lo.y ≤ box.hi.y
  pub x : box.lo.x ≤ box.hi.x
  pub high : IsPoint across box.hi

-- the low corner of a page: each coordinate is a multiple of its side
pub record IsCorner (corner : Point) : Type 0 where
  pub z : corner.z % SIDE ≡ 0
  pub y : corner.y % SIDE ≡ 0
  pub x : corner.x % SIDE ≡ 0

-- a point lies in the page with this low corner
pub record IsInPage (corner p : Point) : Type 0 where
  pub z : corner.z ≤ p.z
  pub z_end : p.z < corner.z + SIDE
  pub y : corner.y ≤ p.y
  pub y_end : p.y < corner.y + SIDE
  pub x : corner.x ≤ p.x
  pub x_end : p.x < corner.x + SIDE

-- the page with this low corner has points of a box
pub record MeetsPage (corner : Point) (box : Region) : Type 0 where
  pub z : corner.z ≤ box.hi.z
  pub z_end : box.lo.z < corner.z + SIDE
  pub y : corner.y ≤ box.hi.y
  pub y_end : box.lo.y < corner.y + SIDE
  pub x : corner.x ≤ box.hi.x
  pub x_end : box.lo.x < corner.x + SIDE

-- a point lies in the layer of pages that begins at this height
pub record IsInLayer (across low : ℕ) (p : Point) : Type 0 where
  pub z : low ≤ p.z
  pub z_end : p.z < low + SIDE
  pub y_end : p.y < SIDE * across
  pub x_end : p.x < SIDE * across
