-- What a leaf leaves open, for every weight of keys: its faces, and the rows of lateral faces along their sides.
--
-- A face of a node is the low face of a node: its own one, or that of the next node along an axis. Flows are counted
-- towards the high side of the axis across a face.
-- Source: this project's rule.
use Rattle.std.specs.Prelude.{ℕ, ◌+◌, ◌-◌, ◌*◌, ◌^◌, Bool, true, false, ◌||◌, ◌==◌, List, [], ◌∷◌, map, ℤ, pos, ◌+ℤ◌, ◌-ℤ◌}
use Rattle.lattice.specs.declared.key.Key.{Key}
use Rattle.lattice.specs.declared.node.Node.{Node}
use Rattle.lattice.specs.declared.node.TheConstants.{CELLS}
use Rattle.lattice.specs.declared.point.Axis.{Axis}
use Rattle.lattice.specs.declared.point.Axis.TheVariants.{X, Y, Z}
use Rattle.lattice.specs.declared.point.Point.{Point}
use Rattle.lattice.specs.Face.{FaceAxis, lower, higher, axis_along}
use Rattle.lattice.specs.Node.{nodes_across, low_corner}
use Rattle.lattice.specs.Point.{moved}
use Rattle.terrain.specs.Blocks.{square_corner}
use Rattle.terrain.specs.Cells.{is_straight, fine_point}
use Rattle.terrain.specs.Levels.{LevelMap, leaves, is_transitional}
use Rattle.terrain.specs.Samples.{Field}
use Rattle.cell_laws.specs.Squares.{low_face, high_face, fine_corner, square_curves, segment_curves}
use Rattle.seam_laws.specs.Flows.{flow, total, when, turned}

-- ---- nodes in a row

-- a node's place in its row along an axis
abbrev pub index : Axis → Node → ℕ
index X n = n.i
index Y n = n.j
index Z n = n.k

-- the next node along an axis; that of the last one in the world is beyond it
abbrev pub node_after : Axis → Node → Node
node_after X n = record n { i = n.i + 1 }
node_after Y n = record n { j = n.j + 1 }
node_after Z n = record n { k = n.k + 1 }

-- the two axes along the faces that lie across an axis
abbrev pub axis_on : Axis → FaceAxis → Axis
axis_on axis along = axis_along (high_face axis) along

-- which planes to count, each by the axis across it and a node whose low face lies in it: all, or those of the border
abbrev pub Choice : Type 0
Choice = Axis → Node → Bool

abbrev pub all : Choice
all axis n = true

abbrev pub on_border : ℕ → Choice
on_border depth axis n = index axis n == 0 || index axis n == nodes_across depth n.level

-- what f gives for the six faces of a node: for the high ones, less what it gives for the low ones. It is told whether
-- a face is transitional, the axis across it, and the node whose low face it is.
abbrev pub over_faces : ℕ → LevelMap → (Bool → Axis → Node → ℤ) → Node → ℤ
over_faces depth m f n =
    let across : Axis → ℤ = λ axis.
    f (is_transitional depth m n (high_face axis)) axis (node_after axis n)
    -ℤ f (is_transitional depth m n (low_face axis)) axis n in
    across X +ℤ (across Y +ℤ across Z)

-- ---- what is open, where the edge from a to b weighs w a b

module _ (w : Key → Key → ℕ) (s : Field) where
  -- the flow of the square of a level at a point, and that of a segment there along one of its two axes
  unfoldable pub square_flow : ℕ → Axis → Point → ℤ
  square_flow level axis at =
      turned (is_straight (high_face axis)) (flow w (square_curves s level (high_face axis) at))

  unfoldable pub segment_flow : ℕ → Axis → FaceAxis → Point → ℤ
  segment_flow level axis along at =
      turned (is_straight (high_face axis))
      (flow w (segment_curves s level (axis_on axis along) at))

  -- the squares of a node's level on its low face across an axis, and those of the next lower level
  unfoldable pub face_flow : Axis → Node → ℤ
  face_flow axis n =
      let at : ℕ → ℕ → Point = square_corner n (low_face axis) in
      total CELLS (λ v. total CELLS (λ u. square_flow n.level axis (at v u)))

  unfoldable pub fine_flow : Axis → Node → ℤ
  fine_flow axis n =
      let low : ℕ → ℕ → Point = square_corner n (low_face axis) in
      let at : ℕ → ℕ → ℕ → Point = λ v u place.
      fine_point n.level (low_face axis) (low v u) (fine_corner place) in
      let four : ℕ → ℕ → ℤ = λ v u.
      total 4 (λ place. square_flow (n.level - 1) axis (at v u place)) in
      total CELLS (λ v. total CELLS (λ u. four v u))

  -- the row of lateral faces from the low corner of a node along one of the two axes of its low face
  unfoldable pub row_flow : Axis → FaceAxis → Node → ℤ
  row_flow axis along n =
      let at : ℕ → Point = λ t. moved (axis_on axis along) (2 ^ n.level * t) (low_corner n) in
      total CELLS (λ t. segment_flow n.level axis along (at t))

  module _ (choice : Choice) where
    -- the squares of a node's low face: the fine ones where it is transitional
    unfoldable pub squares_of : Bool → Axis → Node → ℤ
    squares_of true axis n = when (choice axis n) (fine_flow axis n)
    squares_of false axis n = when (choice axis n) (face_flow axis n)

    -- the four rows round it: at the two ends of the higher axis, then of the lower one
    unfoldable pub rows_round : Axis → Node → ℤ
    rows_round axis n =
        let row : FaceAxis → Axis → Node → ℤ = λ along across n.
        when (choice across n) (row_flow axis along n) in
        let u = axis_on axis lower in
        let v = axis_on axis higher in
        (row lower v n -ℤ row lower v (node_after v n))
        +ℤ (row higher u (node_after u n) -ℤ row higher u n)

    -- there are rows only where it is transitional
    unfoldable pub rows_of : Bool → Axis → Node → ℤ
    rows_of is_fine axis n = when is_fine (rows_round axis n)

    module _ (depth : ℕ) (m : LevelMap) where
      -- the squares of a leaf's faces, and the rows round them: together they are what a leaf leaves open
      unfoldable pub leaf_squares : Node → ℤ
      leaf_squares n = over_faces depth m squares_of n

      unfoldable pub leaf_rows : Node → ℤ
      leaf_rows n = over_faces depth m rows_of n

-- the sum of the numbers of a list
abbrev pub int_sum : List ℤ → ℤ
int_sum [] = pos 0
int_sum (x ∷ xs) = x +ℤ int_sum xs

-- the sum of what f gives for the leaves of a level map
abbrev pub over_leaves : ℕ → LevelMap → (Node → ℤ) → ℤ
over_leaves depth m f = int_sum (map f (leaves depth m))
