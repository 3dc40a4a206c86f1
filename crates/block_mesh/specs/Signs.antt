-- Signs of rows of samples as numbers. This project's rule.
use Rattle.std.specs.Prelude.{◌≡◌, ℕ, ◌+◌, ◌*◌, ◌||◌, Bool, not, ℤ, List, [], ◌∷◌, map}
use Rattle.std.specs.List.{list_all}
use Rattle.lattice.specs.declared.node.Node.{Node}
use Rattle.lattice.specs.declared.point.Face.{Face}
use Rattle.terrain.specs.Lists.{binary}
use Rattle.terrain.specs.Samples.{Field, is_solid}
use Rattle.bricks.specs.Brick.{fine_line, leaf_line}
use Rattle.bricks.specs.Line.{line_samples}
use Rattle.bricks.specs.declared.line.Line.{Line}

-- the signs of samples as a number: bit k is set where the k-th sample is solid
abbrev pub signs_of_samples : List ℤ → ℕ
signs_of_samples samples = binary (map is_solid samples)

-- a line's signs as a number: bit k is set where the sample at its k-th point is solid
abbrev pub line_signs : Field → Line → ℕ
line_signs s line = signs_of_samples (line_samples s line)

-- whether no sample is solid, or all are
abbrev pub have_one_sign : List ℤ → Bool
have_one_sign samples =
    list_all (λ sample. not (is_solid sample)) samples || list_all is_solid samples

-- the four numbers are the signs of the rows of points that bound the z-th and y-th row of a leaf's cells: those at the
-- low y and low z, at the high y and low z, at the low y and high z, and at the high y and high z
pub record BoundCells (s : Field) (n : Node) (z y : ℕ) (rows : List ℕ) : Type 0 where
  pub is : rows ≡ line_signs s (leaf_line n z y)
      ∷ line_signs s (leaf_line n z (y + 1))
      ∷ line_signs s (leaf_line n (z + 1) y)
      ∷ line_signs s (leaf_line n (z + 1) (y + 1)) ∷ []

-- the three numbers are the signs of the rows of finer points through the v-th row of squares of a leaf's face
pub record BoundSquares (s : Field) (n : Node) (face : Face) (v : ℕ) (rows : List ℕ) : Type 0 where
  pub is : rows ≡ line_signs s (fine_line n face (2 * v))
      ∷ line_signs s (fine_line n face (2 * v + 1))
      ∷ line_signs s (fine_line n face (2 * v + 2)) ∷ []
