-- The surface after a history: the triangles of all leaves, by where their corners lie. This project's rule.
use Rattle.std.specs.Prelude.{◌≡◌, ℕ, ◌*◌, ◌<◌, ◌≤◌, ◌⊎◌, List, [], if◌then◌else◌, map, slice_index_or}
use Rattle.lattice.specs.declared.node.Node.{Node}
use Rattle.lattice.specs.declared.point.Pos.{Pos}
use Rattle.lattice.specs.declared.point.TheConstants.{UNITS}
use Rattle.lattice.specs.declared.settings.Settings.{Settings}
use Rattle.lattice.specs.Node.{high_corner, low_corner}
use Rattle.lattice.specs.Orders.{NodeIsBefore}
use Rattle.terrain.specs.declared.event.Event.{Event}
use Rattle.terrain.specs.Blocks.{block, place}
use Rattle.terrain.specs.History.{sample}
use Rattle.terrain.specs.Levels.{is_leaf, levels}

-- a surface: the corners of the triangles of each node, by their number from 0; there are none past the last triangle
abbrev pub Surface : Type 0
Surface = Node → ℕ → List Pos

-- the surface after a history: the triangles of each leaf, in the order of its mesh, with each corner at its key's
-- place; other nodes have none
unfoldable pub surface_after : Settings → List Event → Surface
surface_after rules history n i =
    let s = sample rules history in
    let m = levels rules history in
    let triangles = if is_leaf rules.depth m n then block rules.depth s m n else [] in
    map (place rules.depth s m) (slice_index_or triangles i [])

-- a triangle is earlier than another: its leaf is before the other's in the order of nodes, or both are of one leaf and
-- it comes first there
abbrev pub IsEarlier : Node → ℕ → Node → ℕ → Type 0
IsEarlier n i m j = NodeIsBefore n m ⊎ ((n ≡ m) × (i < j))

-- a position lies in the closed cube of a node
pub record LiesIn (n : Node) (p : Pos) : Type 0 where
  pub x : UNITS * (low_corner n).x ≤ p.x
  pub x_end : p.x ≤ UNITS * (high_corner n).x
  pub y : UNITS * (low_corner n).y ≤ p.y
  pub y_end : p.y ≤ UNITS * (high_corner n).y
  pub z : UNITS * (low_corner n).z ≤ p.z
  pub z_end : p.z ≤ UNITS * (high_corner n).z
