-- The parts of a leaf's samples that lie in one page. This project's rule.
use Rattle.std.specs.Prelude.{◌≡◌, Bool, true, IsTrue, ⊤, ℕ, ◌+◌, ◌*◌, ◌^◌, ◌%◌, ◌<◌, ◌≤◌, All, List, [], ℤ, length, map, pos, slice_index_or}
use Rattle.lattice.specs.declared.node.Node.{Node}
use Rattle.lattice.specs.declared.node.TheConstants.{CELLS}
use Rattle.lattice.specs.declared.point.Point.{Point}
use Rattle.terrain.specs.Samples.{Field, IsSample}
use Rattle.terrain.specs.declared.brush.TheConstants.{MAX_SAMPLE}
use Rattle.field_pages.specs.declared.page.TheConstants.{COUNT, SIDE}
use Rattle.field_pages.specs.declared.page_rows.PageRows.{PageRows}
use Rattle.field_pages.specs.PageRows.{has_steps, lent_samples}
use Rattle.bricks.specs.declared.parts.Lines.{Lines}
use Rattle.bricks.specs.declared.parts.Lines.TheVariants.{Chosen, Stepped, Same}
use Rattle.bricks.specs.Slots.{point_slot}
use Rattle.lattice.specs.Steps.{AreAtMost, point_at}

-- a number of steps along a leaf of a level leads to a page's border
pub record IsPageBorder (level k : ℕ) : Type 0 where
  pub few : k ≤ CELLS
  pub border : 2 ^ level * k % SIDE ≡ 0

-- a point lies in a box, from the low corner on and before the high one
pub record IsInBox (lo hi p : Point) : Type 0 where
  pub z_low : lo.z ≤ p.z
  pub z_high : p.z < hi.z
  pub y_low : lo.y ≤ p.y
  pub y_high : p.y < hi.y
  pub x_low : lo.x ≤ p.x
  pub x_high : p.x < hi.x

-- of the samples of a leaf's points, by steps from its low corner, those in a box are a field's, and the others are as
-- they were
pub record Fills (s : Field) (n : Node) (lo hi : Point) (old new : List ℤ) : Type 0 where
  pub long : length new ≡ length old
  pub here : (p : Point) → AreAtMost CELLS p → IsInBox lo hi p
      → slice_index_or new (point_slot p) (pos 0) ≡ s (point_at n.level n p)
  pub others : (p : Point) → AreAtMost CELLS p → (IsInBox lo hi p → ⊥)
      → slice_index_or new (point_slot p) (pos 0) ≡ slice_index_or old (point_slot p) (pos 0)

-- the same of the box of whole lines along x, from a z and a y on, with so many planes and so many lines in each
abbrev pub FillsLines : Field → Node → ℕ → ℕ → ℕ → ℕ → List ℤ → List ℤ → Type 0
FillsLines s n z y planes lines old new =
    Fills s n (record { z = z; y = y; x = 0 })
    (record { z = z + planes; y = y + lines; x = CELLS + 1 }) old new

-- a page has, from a place on, a field's samples in one plane of a leaf's points, so many on each axis
pub record HasPlane (s : Field) (n : Node) (stride : ℕ) (first : Point) (side : ℕ) (page : List ℤ)
    (from : ℕ) : Type 0 where
  pub each : (y x : ℕ) → y < side → x < side
      → slice_index_or page (from + SIDE * (stride * y) + stride * x) (pos 0)
      ≡ s (point_at n.level n (record { z = first.z; y = first.y + y; x = first.x + x }))

-- a page has a field's samples at a cube of a leaf's points, so many on each axis
pub record HasPart (s : Field) (n : Node) (first : Point) (side : ℕ) (page : List ℤ) : Type 0 where
  pub planes : (z : ℕ) → z < side
      → HasPlane s n (2 ^ n.level) (record first { z = first.z + z }) side page
      (SIDE * SIDE * (2 ^ n.level * z))

-- the samples of each page of a row
abbrev pub page_samples : List PageRows → List (List ℤ)
page_samples pages = map lent_samples pages

-- a row of pages: the first ones, up to that of this number, are whole, and their samples are in range
pub record ArePages (last : ℕ) (pages : List (List ℤ)) : Type 0 where
  pub counts : (t : ℕ) → t ≤ last → length (slice_index_or pages t []) ≡ COUNT
  pub range : (t : ℕ) → t ≤ last → All IsSample (slice_index_or pages t [])

-- which pages of a row lend their rows by steps
abbrev pub page_steps : List PageRows → List Bool
page_steps pages = map has_steps pages

-- the first ones do, up to that of this number
pub record AreStepped (last : ℕ) (steps : List Bool) : Type 0 where
  pub each : (t : ℕ) → t ≤ last → IsTrue (slice_index_or steps t true)

-- each page of a row, up to that of this number, has one row, which each of its rows is
pub record HaveOneRow (last : ℕ) (pages : List (List ℤ)) : Type 0 where
  pub each : (t k : ℕ) → t ≤ last → k < COUNT
      → slice_index_or (slice_index_or pages t []) k MAX_SAMPLE
      ≡ slice_index_or (slice_index_or pages t []) (k % SIDE) MAX_SAMPLE

-- a list has, from a place on, one line of a leaf's points along x: so many samples of each page of a row, from a place
-- of the page on
pub record IsLineOf (stride side : ℕ) (pages : List (List ℤ)) (from : ℕ) (samples : List ℤ) (to : ℕ)
    : Type 0 where
  pub each : (t x : ℕ) → t ≤ stride → x < side → side * t + x ≤ CELLS
      → slice_index_or samples (to + side * t + x) (pos 0)
      ≡ slice_index_or (slice_index_or pages t []) (from + stride * x) (pos 0)

-- a line has a field's samples at the points of a leaf along x, at a z and a y
pub record IsLineAt (s : Field) (n : Node) (z y : ℕ) (line : List ℤ) : Type 0 where
  pub each : (x : ℕ) → x ≤ CELLS → slice_index_or line x (pos 0)
      ≡ s (point_at n.level n (record { z = z; y = y; x = x }))

-- how the lines of a leaf's points may be read from the pages of a row
abbrev pub AreLines : Lines → ℕ → ℕ → List PageRows → Type 0
AreLines Chosen stride side pages = ⊤
AreLines Stepped stride side pages = AreStepped stride (page_steps pages)
AreLines (Same line) stride side pages =
    HaveOneRow stride (page_samples pages) × IsLineOf stride side (page_samples pages) 0 line.now 0

-- a row of pages has, from a place of each page on, a field's samples in one line of a leaf's points along x, so many
-- in each page
pub record HaveLine (s : Field) (n : Node) (stride z y side : ℕ) (pages : List (List ℤ)) (from : ℕ)
    : Type 0 where
  pub each : (t x : ℕ) → t ≤ stride → x < side
      → slice_index_or (slice_index_or pages t []) (from + stride * x) (pos 0)
      ≡ s (point_at n.level n (record { z = z; y = y; x = side * t + x }))

-- a row of pages has, from a place of each page on, a field's samples in one plane of a leaf's points, from a y on
pub record HavePlane (s : Field) (n : Node) (stride z y side : ℕ) (pages : List (List ℤ)) (from : ℕ)
    : Type 0 where
  pub each : (t : ℕ) → t ≤ stride
      → HasPlane s n stride (record { z = z; y = y; x = side * t }) side
      (slice_index_or pages t []) from

-- a row of pages has a field's samples at a row of cubes of a leaf's points, from a z and a y on
pub record HaveParts (s : Field) (n : Node) (z y side : ℕ) (pages : List (List ℤ)) : Type 0 where
  pub each : (t : ℕ) → t ≤ 2 ^ n.level
      → HasPart s n (record { z = z; y = y; x = side * t }) side (slice_index_or pages t [])

-- a list keeps its items but so many from a place on
pub record KeepsOthers (to count : ℕ) (old new : List ℤ) : Type 0 where
  pub long : length new ≡ length old
  pub each : (m : ℕ) → (to ≤ m → m < to + count → ⊥)
      → slice_index_or new m (pos 0) ≡ slice_index_or old m (pos 0)
