-- The finer samples that a leaf's face and one page have in common. This project's rule.
use Rattle.std.specs.Prelude.{◌≡◌, ℕ, ◌+◌, ◌*◌, ◌-◌, ◌/◌, ◌%◌, ◌<◌, ◌≤◌, List, ℤ, length, pos, slice_index_or}
use Rattle.lattice.specs.declared.node.Node.{Node}
use Rattle.lattice.specs.declared.point.Axis.{Axis}
use Rattle.lattice.specs.declared.point.Face.{Face}
use Rattle.lattice.specs.declared.point.Point.{Point}
use Rattle.lattice.specs.Face.{axis_along, higher}
use Rattle.lattice.specs.Point.{coordinate}
use Rattle.terrain.specs.Samples.{Field}
use Rattle.field_pages.specs.Places.{index_in_page}
use Rattle.field_pages.specs.declared.page.TheConstants.{COUNT, SIDE}
use Rattle.bricks.specs.declared.faces.TheConstants.{FINE_POINTS}
use Rattle.bricks.specs.declared.faces.Tile.{Tile}
use Rattle.bricks.specs.Brick.{fine_line}
use Rattle.bricks.specs.Line.{line_point, step_along}

-- a field's sample at a face's finer point, by its places on the higher axis and on the lower one
abbrev pub fine_sample : Field → Node → Face → ℕ → ℕ → ℤ
fine_sample s n face v u = s (line_point (fine_line n face v) u)

-- two lines of a face, by their numbers, lie in the same pages
abbrev pub AreInSamePages : Node → Face → ℕ → ℕ → Type 0
AreInSamePages n face v y =
    coordinate (axis_along face higher) (fine_line n face v).from / SIDE
    ≡ coordinate (axis_along face higher) (fine_line n face y).from / SIDE

-- a tile begins in its page at the place of a point, and has lines along one axis, side by side on another
abbrev pub face_tile : Point → Axis → Axis → ℕ → ℕ → ℕ → Tile
face_tile p low high stride run lines = record {
  from = index_in_page p;
  along = step_along low * stride;
  across = step_along high * stride;
  run = run;
  lines = lines;
}

-- the places of a tile's points are in the page, those of a line that are less than a row apart are in one row, and its
-- lines are whole rows apart
pub record FitsPage (tile : Tile) : Type 0 where
  pub some : 1 ≤ tile.along
  pub run : 1 ≤ tile.run
  pub places : (line k : ℕ) → line < tile.lines → k < tile.run
      → tile.from + tile.across * line + tile.along * k < COUNT
  pub rows : tile.along < SIDE → (line k : ℕ) → line < tile.lines → k < tile.run
      → (tile.from + tile.across * line) % SIDE + tile.along * k < SIDE
  pub apart : (line : ℕ) → tile.across * line % SIDE ≡ 0

-- a page's sample at the place of a tile's point, by the places of the point in its face, where those of the tile's
-- first point are these
abbrev pub tile_sample : List ℤ → Tile → ℕ → ℕ → ℕ → ℕ → ℤ
tile_sample page tile v u y x =
    slice_index_or page (tile.from + tile.across * (y - v) + tile.along * (x - u)) (pos 0)

-- of the finer points of a face, by their places in it, some are in a box
pub record IsInTile (v v_end u u_end y x : ℕ) : Type 0 where
  pub v_low : v ≤ y
  pub v_high : y < v_end
  pub u_low : u ≤ x
  pub u_high : x < u_end

-- of a face's samples those in a box are these, and the others are as they were
pub record FillsTile (f : ℕ → ℕ → ℤ) (v v_end u u_end : ℕ) (old new : List ℤ) : Type 0 where
  pub long : length new ≡ length old
  pub here : (y x : ℕ) → IsInTile v v_end u u_end y x
      → slice_index_or new (y * FINE_POINTS + x) (pos 0) ≡ f y x
  pub others : (y x : ℕ) → x < FINE_POINTS → (IsInTile v v_end u u_end y x → ⊥)
      → slice_index_or new (y * FINE_POINTS + x) (pos 0)
      ≡ slice_index_or old (y * FINE_POINTS + x) (pos 0)
