-- Tables of the keys of a leaf. This project's rule.
use Rattle.std.specs.Prelude.{◌≡◌, ◌==◌, ◌||◌, ℕ, ◌+◌, ◌-◌, ◌*◌, ◌/◌, ◌%◌, ◌≤◌, true, List, length, if◌then◌else◌, slice_index}
use Rattle.std.specs.List.{list_any}
use Rattle.lattice.specs.declared.key.Key.{Key}
use Rattle.lattice.specs.declared.node.Node.{Node}
use Rattle.lattice.specs.declared.node.TheConstants.{CELLS}
use Rattle.lattice.specs.declared.point.Axis.{Axis}
use Rattle.lattice.specs.declared.point.Axis.TheVariants.{X, Y, Z}
use Rattle.lattice.specs.declared.point.Point.{Point}
use Rattle.lattice.specs.Key.{is_same_key}
use Rattle.terrain.specs.Cells.{CellEdge, corner_point}
use Rattle.lattice.specs.Steps.{AreAtMost, key_at}
use Rattle.block_mesh.specs.Mesh.{index_among}
use Rattle.bricks.specs.Slots.{point_slot}

-- one more than a key's index in the list, or 0 where it isn't there
abbrev pub entry : Key → List Key → ℕ
entry key keys = if list_any (λ k. is_same_key k key) keys then index_among key keys + 1 else 0

-- the slot of an edge of a leaf's cells among all of them, by its low end, then its axis
abbrev pub edge_slot : Point → Axis → ℕ
edge_slot at X = 3 * point_slot at
edge_slot at Y = 3 * point_slot at + 1
edge_slot at Z = 3 * point_slot at + 2

-- how much further the slot of an edge of a cell is than that of the cell's first edge
abbrev pub edge_step : CellEdge → ℕ
edge_step edge =
    let origin : Point = record { z = 0; y = 0; x = 0 } in
    edge_slot (corner_point 0 origin edge.corner) edge.axis

-- a point of the level below lies on a leaf's border
pub record IsOnBorder (at : Point) : Type 0 where
  pub within : AreAtMost (2 * CELLS) at
  pub side : (at.z % (2 * CELLS) == 0 || (at.y % (2 * CELLS) == 0 || at.x % (2 * CELLS) == 0))
      ≡ true

-- the slot of a point of a plane, by the plane, then the point's row, then its place there
abbrev pub plane_slot : ℕ → ℕ → ℕ → ℕ
plane_slot plane row column = (plane * (2 * CELLS + 1) + row) * (2 * CELLS + 1) + column

-- the slot of such a point among all of these: in the first of the six planes, ZLow, ZHigh, YLow, YHigh, XLow and
-- XHigh, on which it lies
abbrev pub border_slot : Point → ℕ
border_slot at =
    if at.z % (2 * CELLS) == 0 then plane_slot (at.z / (2 * CELLS)) at.y at.x
    else (if at.y % (2 * CELLS) == 0 then plane_slot (2 + at.y / (2 * CELLS)) at.z at.x
    else plane_slot (4 + at.x / (2 * CELLS)) at.z at.y)

-- the slot of an edge of the level below that begins there, by its low end, then its axis
abbrev pub fine_slot : Point → Axis → ℕ
fine_slot at X = 3 * border_slot at
fine_slot at Y = 3 * border_slot at + 1
fine_slot at Z = 3 * border_slot at + 2

-- a table has so many slots, and no number that is above the base by more than a count
pub record IsEdgeTable (size base count : ℕ) (table : List ℕ) : Type 0 where
  pub whole : length table ≡ size
  pub most : (slot : ℕ) → slice_index table slot ≤ base + count

-- a table has the entries of the keys of a level whose steps from a leaf's low corner are among some: at the slot of
-- each key is a number that is above the base by the key's entry
pub record HasEntries (n : Node) (level : ℕ) (IsAmong : Point → Type 0)
    (slot_of : Point → Axis → ℕ) (base : ℕ) (table : List ℕ) (keys : List Key) : Type 0 where
  pub each : (at : Point) (axis : Axis) → IsAmong at
      → slice_index table (slot_of at axis) - base ≡ entry (key_at level n at axis) keys
