-- The column of nodes over a place. This project's rule.
use Rattle.std.specs.Prelude.{ℕ, ◌+◌, ◌*◌, ◌<◌, ◌≤◌}
use Rattle.lattice.specs.declared.node.Node.{Node}
use Rattle.lattice.specs.declared.point.TheConstants.{UNITS}
use Rattle.lattice.specs.Node.{IsNode, node_side, nodes_across}
use Rattle.octree.specs.declared.indices.Indices.{Indices}
use Rattle.frame_surface.specs.Heights.{Covers}
use Rattle.frame_surface.specs.Surface.{Surface}
use Rattle.frame_surface.specs.declared.picking.Column.{Column}
use Rattle.frame_surface.specs.declared.spot.Spot.{Spot}

-- the closed range of a node of a level with this index holds a coordinate, in 1/256 cell
pub record HoldsPlace (level index at : ℕ) : Type 0 where
  pub low : index * (UNITS * node_side level) ≤ at
  pub high : at ≤ (index + 1) * (UNITS * node_side level)

-- an index is one of those from a low one to just below an end
pub record IsIndex (indices : Indices) (index : ℕ) : Type 0 where
  pub low : indices.low ≤ index
  pub end : index < indices.end

-- a column has all nodes of a level of a world that hold a place
pub record IsColumn (depth : ℕ) (at : Spot) (column : Column) : Type 0 where
  pub level : column.level ≤ depth
  pub j_within : column.js.end ≤ nodes_across depth column.level
  pub i_within : column.is.end ≤ nodes_across depth column.level
  pub j_order : column.js.low ≤ column.js.end
  pub i_order : column.is.low ≤ column.is.end
  pub js : (j : ℕ) → j < nodes_across depth column.level → HoldsPlace column.level j at.y
      → IsIndex column.js j
  pub is : (i : ℕ) → i < nodes_across depth column.level → HoldsPlace column.level i at.x
      → IsIndex column.is i

-- a surface stands over its nodes: what covers a place is of a node of the world that holds the place along x and y
pub record StandsOverNodes (depth : ℕ) (surface : Surface) : Type 0 where
  pub node : (n : Node) (i x y num den : ℕ) → Covers (surface n i) x y num den → IsNode depth n
  pub x : (n : Node) (i x y num den : ℕ) → Covers (surface n i) x y num den
      → HoldsPlace n.level n.i x
  pub y : (n : Node) (i x y num den : ℕ) → Covers (surface n i) x y num den
      → HoldsPlace n.level n.j y
