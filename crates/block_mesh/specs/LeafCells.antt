-- The cells of a leaf by their places in it, and their triangles by the edges of cells. This project's rule.
use Rattle.std.specs.Prelude.{◌≡◌, ℕ, ◌+◌, ◌*◌, ◌<◌, ◌≤◌, ℤ, All, List, length, map}
use Rattle.cells.specs.declared.edges.Along.{Along}
use Rattle.cells.specs.declared.edges.Along.TheVariants.{Higher, Lower}
use Rattle.lattice.specs.declared.key.Key.{Key}
use Rattle.lattice.specs.declared.node.Node.{Node}
use Rattle.lattice.specs.declared.node.TheConstants.{CELLS}
use Rattle.lattice.specs.declared.point.Face.{Face}
use Rattle.lattice.specs.declared.point.Point.{Point}
use Rattle.terrain.specs.Blocks.{Brick, cell_corner, face_samples, square_corner}
use Rattle.terrain.specs.Samples.{Field, IsSample}
use Rattle.bricks.specs.Brick.{HasSamples}
use Rattle.terrain.specs.Cells.{regular_key, transition_key}

-- the key of an edge of the regular cell at a place of a leaf
abbrev pub cell_key : Node → Point → ℕ → Key
cell_key n cell = regular_key n.level (cell_corner n cell.z cell.y cell.x)

-- triangles whose keys are edges of that cell
abbrev pub cell_triangles : Node → Point → List (List ℕ) → List (List Key)
cell_triangles n cell triangles = map (map (cell_key n cell)) triangles

-- the key of an edge of the transition cell on the v-th and u-th square of a leaf's face
abbrev pub square_key : Node → Face → ℕ → ℕ → ℕ → Key
square_key n face v u = transition_key n.level face (square_corner n face v u)

-- triangles whose keys are edges of that cell
abbrev pub square_triangles : Node → Face → ℕ → ℕ → List (List ℕ) → List (List Key)
square_triangles n face v u triangles = map (map (square_key n face v u)) triangles

-- samples are the finer ones of a leaf's face
pub record IsFace (b : Brick) (face : Face) (fines : List ℤ) : Type 0 where
  pub level : 1 ≤ b.node.level
  pub count : length fines ≡ (2 * CELLS + 1) * (2 * CELLS + 1)
  pub range : All IsSample fines
  pub field : ∥ ((s : Field) × HasSamples s b) ∥₁
  pub are : (s : Field) → HasSamples s b → fines ≡ face_samples s b.node face

-- an edge on a leaf's face that begins at a finer point, the v-th and the u-th, ends on the face
abbrev pub EndsOnFace : ℕ → ℕ → Along → Type 0
EndsOnFace v u Lower = (v ≤ 2 * CELLS) × (u < 2 * CELLS)
EndsOnFace v u Higher = (v < 2 * CELLS) × (u ≤ 2 * CELLS)
