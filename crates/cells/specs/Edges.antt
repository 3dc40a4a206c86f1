-- The edges of cells by their numbers, and where a cell may lie. This project's rule.
use Rattle.std.specs.Prelude.{ℕ, ◌+◌, ◌^◌, ◌<◌, false, slice_index_or}
use Rattle.lattice.specs.declared.point.Axis.TheVariants.{X}
use Rattle.lattice.specs.declared.point.Point.{Point}
use Rattle.lattice.specs.Face.{FaceAxis, lower, higher}
use Rattle.terrain.specs.Cells.{CellEdge, TransitionEdge, regular_edges, transition_edges}
use Rattle.cells.specs.declared.edges.Along.{Along}
use Rattle.cells.specs.declared.edges.Along.TheVariants.{Lower, Higher}

-- the axis along a face that this is
abbrev pub face_axis : Along → FaceAxis
face_axis Lower = lower
face_axis Higher = higher

-- the edge of this number of a regular cell
abbrev pub regular_edge : ℕ → CellEdge
regular_edge number = slice_index_or regular_edges number (record { corner = 0; axis = X })

-- the edge of this number of a transition cell
abbrev pub transition_edge : ℕ → TransitionEdge
transition_edge number =
    slice_index_or transition_edges number
    (record { is_coarse = false; point = 0; along = lower })

-- there are numbers for the points of the cell of this level with this low corner
pub record CellHasRoom (level : ℕ) (low : Point) : Type 0 where
  pub shift : level < 32
  pub z : low.z + 2 ^ level < 2 ^ 32
  pub y : low.y + 2 ^ level < 2 ^ 32
  pub x : low.x + 2 ^ level < 2 ^ 32
