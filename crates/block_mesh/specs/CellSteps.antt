-- The triangles of regular cells by the steps of their edges' slots. This project's rule.
use Rattle.std.specs.Prelude.{◌≡◌, ℕ, ◌<◌, List, map, length, slice_index_or}
use Rattle.std.specs.List.{AllByRecursion}
use Rattle.cells.specs.declared.edges.TheConstants.{REGULAR_EDGES}
use Rattle.cells.specs.Edges.{regular_edge}
use Rattle.terrain.specs.Cells.{regular_faces, triangles_of}
use Rattle.block_mesh.specs.KeyTable.{edge_step}
use Rattle.block_mesh.specs.declared.cell_steps.Triangles.{Triangles}

-- the step of the edge of this number of a cell
abbrev pub number_step : ℕ → ℕ
number_step number = edge_step (regular_edge number)

-- the triangles of the regular cell of this sign number, each edge by its step
abbrev pub triangle_steps : ℕ → List (List ℕ)
triangle_steps signs = map (map number_step) (triangles_of (regular_faces signs))

-- these are they, of twelve edges alone
pub record HasTriangleSteps (signs : ℕ) (triangles : Triangles) : Type 0 where
  pub steps : triangles.steps.items ≡ triangle_steps signs
  pub edges : AllByRecursion (AllByRecursion (λ edge. edge < REGULAR_EDGES))
      (triangles_of (regular_faces signs))

-- a table has them for each sign number below a count
pub record HaveTriangleSteps (count : ℕ) (table : List Triangles) : Type 0 where
  pub whole : length table ≡ count
  pub each : (signs : ℕ) (none : Triangles) → signs < count
      → HasTriangleSteps signs (slice_index_or table signs none)
