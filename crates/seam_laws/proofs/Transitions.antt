-- What the transition cells of a leaf's face leave open, added up: `face-total`, for `LeafTotals`.
--
-- Each cell leaves its four fine squares, less its coarse one, and four lateral faces (`CellFlows`). Where these lie is
-- told by the lattice of the leaf's level (`square-corner`, `fine-on`, `start-at`). Added up over 16 x 16 cells, the
-- fine squares are the fine flow of the face (`fine-total`), the coarse ones its own (`coarse-total`), and of the
-- lateral faces the rows at the four sides stay (`sides-total` of `LeafFlows`).
use Rattle.std.proofs.Common.{◌≡◌, ℕ, suc, ◌+◌, ◌-◌, ◌*◌, ◌^◌, ◌≤◌, Bool, true, false, List, refl, ap, sym, ◌∙◌, arith}
use Rattle.std.specs.Prelude.{ℤ, ◌+ℤ◌, ◌-ℤ◌, neg_ℤ}
use Rattle.lattice.specs.declared.point.Point.{Point}
use Rattle.lattice.specs.declared.point.Axis.{Axis}
use Rattle.lattice.specs.declared.point.Axis.TheVariants.{X, Y, Z}
use Rattle.lattice.specs.declared.key.Key.{Key}
use Rattle.lattice.specs.Lists.{joined}
use Rattle.terrain.specs.Curves.{all_edges}
use Rattle.lattice.specs.Point.{moved}
use Rattle.terrain.specs.Samples.{Field}
use Rattle.lattice.specs.Face.{FaceAxis, lower, higher, axis_along}
use Rattle.terrain.specs.Cells.{fine_point, transition_triangles}
use Rattle.terrain.specs.Blocks.{square_corner, over_squares}
use Rattle.cell_laws.specs.Squares.{low_face, fine_corner, segment_start}
use Rattle.cell_laws.proofs.SquareFaces.{moved-zero}
use Rattle.seam_laws.specs.Flows.{flow, total, turned}
use Rattle.seam_laws.specs.Seams.{node_after, axis_on, square_flow, segment_flow, face_flow, fine_flow, row_flow, all, rows_round}
use Rattle.seam_laws.proofs.NumberSums.{total-same, total-negative}
use Rattle.seam_laws.proofs.NodePlaces.{node_at, node_at-level}
use Rattle.seam_laws.proofs.LowFaceSquares.{point_at, same_point, corner-at, face-squares}
use Rattle.seam_laws.proofs.FlowLemmas.{edges-joined}
use Rattle.seam_laws.proofs.CellFlows.{face_on, along-at, transition-flow}
use Rattle.seam_laws.proofs.LeafFlows.{square-same, square-sum, square-difference, four_sides, sides-total}

-- the place of the plane of a node's low or high face
abbrev pub plane : Bool → ℕ → ℕ
plane true c = suc c
plane false c = c

-- the squares of a node's face by the lattice of its level
pub square-corner : (level : ℕ) (axis : Axis) (high : Bool) (c u v b a : ℕ)
    → square_corner (node_at level axis c u v) (face_on axis high) b a
    ≡ point_at level axis (16 * plane high c) (16 * u + a) (16 * v + b)
square-corner level X true c u v b a = same_point _ _ (omega arith) (omega arith) (omega arith)
square-corner level X false c u v b a = corner-at level X c u v b a
square-corner level Y true c u v b a = same_point _ _ (omega arith) (omega arith) (omega arith)
square-corner level Y false c u v b a = corner-at level Y c u v b a
square-corner level Z true c u v b a = same_point _ _ (omega arith) (omega arith) (omega arith)
square-corner level Z false c u v b a = corner-at level Z c u v b a

-- the fine points of a high face are those of the low face there
pub fine-on : (level : ℕ) (axis : Axis) (high : Bool) (low : Point) (point : ℕ)
    → fine_point level (face_on axis high) low point ≡ fine_point level (low_face axis) low point
fine-on level X true low point = refl
fine-on level X false low point = refl
fine-on level Y true low point = refl
fine-on level Y false low point = refl
fine-on level Z true low point = refl
fine-on level Z false low point = refl

-- ---- where the lateral faces lie

-- the next point along the lower axis
moved-lower : (level : ℕ) (axis : Axis) (c u v : ℕ)
    → moved (axis_on axis lower) (2 ^ level) (point_at level axis c u v)
    ≡ point_at level axis c (suc u) v
moved-lower level X c u v = same_point _ _ (omega arith) (omega arith) (omega arith)
moved-lower level Y c u v = same_point _ _ (omega arith) (omega arith) (omega arith)
moved-lower level Z c u v = same_point _ _ (omega arith) (omega arith) (omega arith)

-- the next point along the higher axis
moved-higher : (level : ℕ) (axis : Axis) (c u v : ℕ)
    → moved (axis_on axis higher) (2 ^ level) (point_at level axis c u v) ≡ point_at level axis c u
    (suc v)
moved-higher level X c u v = same_point _ _ (omega arith) (omega arith) (omega arith)
moved-higher level Y c u v = same_point _ _ (omega arith) (omega arith) (omega arith)
moved-higher level Z c u v = same_point _ _ (omega arith) (omega arith) (omega arith)

-- the place of a lateral face along the lower axis, and along the higher one
abbrev start-u : FaceAxis → Bool → ℕ → ℕ
start-u higher true u = suc u
start-u along far u = u

-- the index of a lateral face along the higher axis
abbrev start-v : FaceAxis → Bool → ℕ → ℕ
start-v lower true v = suc v
start-v along far v = v

-- where a lateral face begins
pub start-at : (level : ℕ) (axis : Axis) (high : Bool) (along : FaceAxis) (far : Bool) (c u v : ℕ)
    → segment_start level (face_on axis high) (point_at level axis c u v) along far
    ≡ point_at level axis c (start-u along far u) (start-v along far v)
start-at level axis high lower false c u v =
    moved-zero (axis_along (face_on axis high) higher) (point_at level axis c u v)
start-at level axis high higher false c u v =
    moved-zero (axis_along (face_on axis high) lower) (point_at level axis c u v)
start-at level axis high lower true c u v =
    (λ t. moved (along-at axis high higher t) (2 ^ level) (point_at level axis c u v))
    ∙ moved-higher level axis c u v
start-at level axis high higher true c u v =
    (λ t. moved (along-at axis high lower t) (2 ^ level) (point_at level axis c u v))
    ∙ moved-lower level axis c u v

-- a sum of turned numbers over a square of places
pub square-turned : (high : Bool) (f : ℕ → ℕ → ℤ)
    → total 16 (λ v. total 16 (λ u. turned high (f u v)))
    ≡ turned high (total 16 (λ v. total 16 (λ u. f u v)))
square-turned true f = refl
square-turned false f =
    total-same 16 (λ v. total 16 (λ u. neg_ℤ (f u v))) (λ v. neg_ℤ (total 16 (λ u. f u v)))
    (λ v v_in. total-negative 16 (λ u. f u v))
    ∙ total-negative 16 (λ v. total 16 (λ u. f u v))

module _ (w : Key → Key → ℕ) (s : Field) (level : ℕ) (axis : Axis) (high : Bool) where
  -- the fine squares of one transition cell
  fine_at : Point → ℕ → ℤ
  fine_at low place = square_flow w s (level - 1) axis
      (fine_point level (face_on axis high) low (fine_corner place))

  -- one transition cell
  cell-at : (c u v : ℕ) → 1 ≤ level
      → (let low = point_at level axis c u v in
      flow w (all_edges (transition_triangles s level (face_on axis high) low))
      ≡ turned high ((total 4 (fine_at low) -ℤ square_flow w s level axis low)
      +ℤ four_sides w s level axis (λ x. true) (λ x. true) c u v))
  unfolding fine_at
  cell-at c u v some =
      let low = point_at level axis c u v in
      transition-flow w s level axis high low some
      ∙ (λ t. turned high ((total 4 (fine_at low) -ℤ square_flow w s level axis low)
      +ℤ ((segment_flow w s level axis lower (start-at level axis high lower false c u v t)
      -ℤ segment_flow w s level axis lower (start-at level axis high lower true c u v t))
      +ℤ (segment_flow w s level axis higher (start-at level axis high higher true c u v t)
      -ℤ segment_flow w s level axis higher (start-at level axis high higher false c u v t)))))

  -- the coarse squares and the fine ones
  coarse-total : (c u v : ℕ)
      → total 16 (λ b. total 16 (λ a. square_flow w s level axis
      (point_at level axis (16 * c) (16 * u + a) (16 * v + b))))
      ≡ face_flow w s axis (node_at level axis c u v)
  coarse-total c u v = sym (face-squares w s level axis c u v)

  -- the fine squares of all cells of the face
  fine-total : (c u v : ℕ)
      → total 16 (λ b. total 16 (λ a. total 4
      (fine_at (point_at level axis (16 * c) (16 * u + a) (16 * v + b)))))
      ≡ fine_flow w s axis (node_at level axis c u v)
  unfolding fine_flow fine_at
  fine-total c u v =
      let n = node_at level axis c u v in
      square-same (λ a b. total 4
      (fine_at (point_at level axis (16 * c) (16 * u + a) (16 * v + b))))
      (λ a b. total 4 (λ place. square_flow w s (n.level - 1) axis
      (fine_point n.level (low_face axis) (square_corner n (low_face axis) b a)
      (fine_corner place)))) (λ a b a_in b_in.
      total-same 4 (fine_at (point_at level axis (16 * c) (16 * u + a) (16 * v + b)))
      (λ place. square_flow w s (n.level - 1) axis
      (fine_point n.level (low_face axis) (square_corner n (low_face axis) b a)
      (fine_corner place))) (λ place few.
      ap (square_flow w s (level - 1) axis)
      (fine-on level axis high (point_at level axis (16 * c) (16 * u + a) (16 * v + b))
      (fine_corner place))
      ∙ (λ t. square_flow w s (sym (node_at-level level axis c u v) t - 1) axis
      (fine_point (sym (node_at-level level axis c u v) t) (low_face axis)
      (sym (corner-at level axis c u v b a) t) (fine_corner place)))))

  -- all transition cells of a face
  pub face-total : (c u v : ℕ) → 1 ≤ level
      → (let n = node_at level axis (plane high c) u v in
      flow w (all_edges (over_squares (node_at level axis c u v) (face_on axis high)
      (transition_triangles s level (face_on axis high))))
      ≡ turned high ((fine_flow w s axis n -ℤ face_flow w s axis n) +ℤ rows_round w s all axis n))
  unfolding over_squares rows_round
  face-total c u v some =
      let face = face_on axis high in
      let p = plane high c in
      let n = node_at level axis p u v in
      let at : ℕ → ℕ → Point = λ a b. point_at level axis (16 * p) (16 * u + a) (16 * v + b) in
      let cells : Point → List (List Key) = transition_triangles s level face in
      let one : ℕ → ℕ → ℤ =
      λ a b. flow w (all_edges (cells (square_corner (node_at level axis c u v) face b a))) in
      let squares : ℕ → ℕ → ℤ = λ a b. total 4 (fine_at (at a b)) -ℤ square_flow w s level axis
      (at a b) in
      let sides : ℕ → ℕ → ℤ = λ a b. four_sides w s level axis (λ x. true) (λ x. true) (16 * p)
      (16 * u + a) (16 * v + b) in
      edges-joined w 16 (λ b. joined 16
      (λ a. cells (square_corner (node_at level axis c u v) face b a)))
      ∙ total-same 16
      (λ b. flow w
      (all_edges (joined 16 (λ a. cells (square_corner (node_at level axis c u v) face b a)))))
      (λ b. total 16 (λ a. one a b)) (λ b b_in. edges-joined w 16
      (λ a. cells (square_corner (node_at level axis c u v) face b a)))
      ∙ square-same one (λ a b. turned high (squares a b +ℤ sides a b)) (λ a b a_in b_in.
      ap (λ low. flow w (all_edges (cells low))) (square-corner level axis high c u v b a)
      ∙ cell-at (16 * p) (16 * u + a) (16 * v + b) some)
      ∙ square-turned high (λ a b. squares a b +ℤ sides a b)
      ∙ ap (turned high) (square-sum squares sides
      ∙ (λ t. square-difference (λ a b. total 4 (fine_at (at a b)))
      (λ a b. square_flow w s level axis (at a b)) t +ℤ sides-total w s level axis (λ x. true)
      (λ x. true) p u v t)
      ∙ (λ t. (fine-total p u v t -ℤ coarse-total p u v t) +ℤ
      ((row_flow w s axis lower n
      -ℤ row_flow w s axis lower (node_after (axis_on axis higher) n)) +ℤ
      (row_flow w s axis higher (node_after (axis_on axis lower) n)
      -ℤ row_flow w s axis higher n))))
