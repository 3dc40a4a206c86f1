-- What the regular cells of a leaf leave open, added up (`regular-total`), and what of it lies on the border of the
-- world (`border-total`). For `LeafTotals`.
--
-- Each of the 16 x 16 x 16 cells leaves, for each axis, the square at its high end less the one at its low end. So the
-- sum is parted by axes, and each part is summed along its own axis first (`cube-y`, `cube-z`), where `squares-total`
-- of `LeafFlows` leaves the node's two faces (`ends`). `cells-total` does this once for any test of planes.
use Rattle.std.proofs.Common.{◌≡◌, ℕ, suc, ◌+◌, ◌*◌, ◌^◌, Bool, true, false, List, ap, ◌∙◌, arith}
use Rattle.std.specs.Prelude.{ℤ, ◌+ℤ◌, ◌-ℤ◌}
use Rattle.lattice.specs.declared.point.Point.{Point}
use Rattle.lattice.specs.declared.point.Axis.{Axis}
use Rattle.lattice.specs.declared.point.Axis.TheVariants.{X, Y, Z}
use Rattle.lattice.specs.declared.node.Node.{Node}
use Rattle.lattice.specs.declared.key.Key.{Key}
use Rattle.lattice.specs.Lists.{joined}
use Rattle.terrain.specs.Curves.{all_edges}
use Rattle.lattice.specs.Point.{coordinate}
use Rattle.terrain.specs.Samples.{Field}
use Rattle.terrain.specs.Cells.{corner_point, regular_signs, regular_key, regular_outlines, regular_triangles}
use Rattle.terrain.specs.Blocks.{cell_corner, over_cells, border_curves}
use Rattle.cell_laws.specs.Squares.{corner_on}
use Rattle.seam_laws.specs.Flows.{flow, total, when}
use Rattle.seam_laws.specs.Seams.{index, node_after, square_flow, face_flow}
use Rattle.seam_laws.proofs.NumberSums.{total-same, total-sum, total-swap}
use Rattle.seam_laws.proofs.LowFaceSquares.{point_at, same_point}
use Rattle.seam_laws.proofs.FlowLemmas.{flow-joined, edges-joined}
use Rattle.seam_laws.proofs.CellFlows.{face_on, regular-cell-flow}
use Rattle.seam_laws.proofs.LeafFlows.{two_squares, squares-total}
use Rattle.seam_laws.proofs.Transitions.{plane}
use Rattle.seam_laws.proofs.OnBorder.{lies}
use Rattle.seam_laws.proofs.BorderCells.{regular-border}

-- ---- sums over a cube of cells

-- the sum of f over 16 x 16 x 16 places
abbrev cube : (ℕ → ℕ → ℕ → ℤ) → ℤ
cube f = total 16 (λ z. total 16 (λ y. total 16 (λ x. f z y x)))

-- sums of the same numbers
cube-same : (f g : ℕ → ℕ → ℕ → ℤ) → ((z y x : ℕ) → f z y x ≡ g z y x) → cube f ≡ cube g
cube-same f g same =
    total-same 16 (λ z. total 16 (λ y. total 16 (λ x. f z y x)))
    (λ z. total 16 (λ y. total 16 (λ x. g z y x))) (λ z z_in.
    total-same 16 (λ y. total 16 (λ x. f z y x)) (λ y. total 16 (λ x. g z y x)) (λ y y_in.
    total-same 16 (λ x. f z y x) (λ x. g z y x) (λ x x_in. same z y x)))

-- a sum of sums
cube-sum : (f g : ℕ → ℕ → ℕ → ℤ) → cube (λ z y x. f z y x +ℤ g z y x) ≡ cube f +ℤ cube g
cube-sum f g =
    total-same 16 (λ z. total 16 (λ y. total 16 (λ x. f z y x +ℤ g z y x)))
    (λ z. total 16 (λ y. total 16 (λ x. f z y x)) +ℤ total 16 (λ y. total 16 (λ x. g z y x)))
    (λ z z_in.
    total-same 16 (λ y. total 16 (λ x. f z y x +ℤ g z y x))
    (λ y. total 16 (λ x. f z y x) +ℤ total 16 (λ x. g z y x))
    (λ y y_in. total-sum 16 (λ x. f z y x) (λ x. g z y x))
    ∙ total-sum 16 (λ y. total 16 (λ x. f z y x)) (λ y. total 16 (λ x. g z y x)))
    ∙ total-sum 16 (λ z. total 16 (λ y. total 16 (λ x. f z y x)))
    (λ z. total 16 (λ y. total 16 (λ x. g z y x)))

-- with y first
cube-y : (f : ℕ → ℕ → ℕ → ℤ) → cube f ≡ total 16 (λ z. total 16 (λ x. total 16 (λ y. f z y x)))
cube-y f = total-same 16 (λ z. total 16 (λ y. total 16 (λ x. f z y x)))
    (λ z. total 16 (λ x. total 16 (λ y. f z y x))) (λ z z_in. total-swap 16 16 (λ y x. f z y x))

-- with z first
cube-z : (f : ℕ → ℕ → ℕ → ℤ) → cube f ≡ total 16 (λ y. total 16 (λ x. total 16 (λ z. f z y x)))
cube-z f =
    total-swap 16 16 (λ z y. total 16 (λ x. f z y x))
    ∙ total-same 16 (λ y. total 16 (λ z. total 16 (λ x. f z y x)))
    (λ y. total 16 (λ x. total 16 (λ z. f z y x))) (λ y y_in. total-swap 16 16 (λ z x. f z y x))

-- ---- regular cells

-- where the square on each face of a cell lies, by the node's lattice
corner-plane : (n : Node) (high : Bool) (z y x : ℕ)
    → (corner_on n.level (face_on X high) (cell_corner n z y x)
    ≡ point_at n.level X (plane high (16 * n.i + x)) (16 * n.j + y) (16 * n.k + z))
    × ((corner_on n.level (face_on Y high) (cell_corner n z y x)
    ≡ point_at n.level Y (plane high (16 * n.j + y)) (16 * n.i + x) (16 * n.k + z))
    × (corner_on n.level (face_on Z high) (cell_corner n z y x)
    ≡ point_at n.level Z (plane high (16 * n.k + z)) (16 * n.i + x) (16 * n.j + y)))
corner-plane n true z y x = (
  same_point _ _ (omega arith) (omega arith) (omega arith),
  (
    same_point _ _ (omega arith) (omega arith) (omega arith),
    same_point _ _ (omega arith) (omega arith) (omega arith),
  ),
)
corner-plane n false z y x = (
  same_point _ _ (omega arith) (omega arith) (omega arith),
  (
    same_point _ _ (omega arith) (omega arith) (omega arith),
    same_point _ _ (omega arith) (omega arith) (omega arith),
  ),
)

module _ (w : Key → Key → ℕ) (s : Field) (n : Node) where
  -- what is left of the squares across an axis: those of the high face, less those of the low one
  abbrev pub ends : (ℕ → Bool) → Axis → ℤ
  ends kept axis = when (kept (16 * suc (index axis n))) (face_flow w s axis (node_after axis n))
      -ℤ when (kept (16 * index axis n)) (face_flow w s axis n)

  -- what the cells say of their squares, for any choice of planes
  cells-total : (kept : ℕ → Bool)
      → (let part : Axis → ℕ → ℕ → ℕ → ℤ = λ axis. two_squares w s n.level axis kept in
      cube (λ z y x. part X (16 * n.i + x) (16 * n.j + y) (16 * n.k + z) +ℤ
      (part Y (16 * n.j + y) (16 * n.i + x) (16 * n.k + z) +ℤ part Z (16 * n.k + z)
      (16 * n.i + x) (16 * n.j + y)))
      ≡ ends kept X +ℤ (ends kept Y +ℤ ends kept Z))
  cells-total kept =
      let part : Axis → ℕ → ℕ → ℕ → ℤ = λ axis. two_squares w s n.level axis kept in
      let x-part : ℕ → ℕ → ℕ → ℤ = λ z y x. part X (16 * n.i + x) (16 * n.j + y) (16 * n.k + z) in
      let y-part : ℕ → ℕ → ℕ → ℤ = λ z y x. part Y (16 * n.j + y) (16 * n.i + x) (16 * n.k + z) in
      let z-part : ℕ → ℕ → ℕ → ℤ = λ z y x. part Z (16 * n.k + z) (16 * n.i + x) (16 * n.j + y) in
      cube-sum x-part (λ z y x. y-part z y x +ℤ z-part z y x)
      ∙ ap (λ a. cube x-part +ℤ a) (cube-sum y-part z-part)
      ∙ (λ t. squares-total w s n.level X kept n.i n.j n.k t
      +ℤ ((cube-y y-part ∙ squares-total w s n.level Y kept n.j n.i n.k) t
      +ℤ (cube-z z-part ∙ squares-total w s n.level Z kept n.k n.i n.j) t))

  -- what the regular cells of a leaf leave open: the squares of its faces
  pub regular-total : flow w (all_edges (over_cells n (regular_triangles s n.level)))
      ≡ ends (λ c. true) X +ℤ (ends (λ c. true) Y +ℤ ends (λ c. true) Z)
  unfolding over_cells
  regular-total =
      let cell : ℕ → ℕ → ℕ → List (List Key) =
      λ z y x. regular_triangles s n.level (cell_corner n z y x) in
      edges-joined w 16 (λ z. joined 16 (λ y. joined 16 (λ x. cell z y x)))
      ∙ total-same 16 (λ z. flow w (all_edges (joined 16 (λ y. joined 16 (λ x. cell z y x)))))
      (λ z. total 16 (λ y. total 16 (λ x. flow w (all_edges (cell z y x))))) (λ z z_in.
      edges-joined w 16 (λ y. joined 16 (λ x. cell z y x))
      ∙ total-same 16 (λ y. flow w (all_edges (joined 16 (λ x. cell z y x))))
      (λ y. total 16 (λ x. flow w (all_edges (cell z y x))))
      (λ y y_in. edges-joined w 16 (λ x. cell z y x)))
      ∙ cube-same (λ z y x. flow w (all_edges (cell z y x)))
      (λ z y x. two_squares w s n.level X (λ c. true) (16 * n.i + x) (16 * n.j + y)
      (16 * n.k + z) +ℤ (two_squares w s n.level Y (λ c. true) (16 * n.j + y) (16 * n.i + x)
      (16 * n.k + z) +ℤ two_squares w s n.level Z (λ c. true) (16 * n.k + z) (16 * n.i + x)
      (16 * n.j + y))) (λ z y x.
      let high = corner-plane n true z y x in
      let low = corner-plane n false z y x in
      regular-cell-flow w s n.level (cell_corner n z y x)
      ∙ (λ t. (square_flow w s n.level X (high.0 t) -ℤ square_flow w s n.level X (low.0 t))
      +ℤ ((square_flow w s n.level Y (high.1.0 t) -ℤ square_flow w s n.level Y (low.1.0 t))
      +ℤ (square_flow w s n.level Z (high.1.1 t) -ℤ square_flow w s n.level Z (low.1.1 t)))))
      ∙ cells-total (λ c. true)

  -- what of it lies on the border of the world
  pub border-total : (depth : ℕ)
      → flow w (over_cells n (λ low. border_curves depth (corner_point n.level low)
      (regular_key n.level low) (regular_signs s n.level low) regular_outlines))
      ≡ (let kept : ℕ → Bool = λ c. lies depth (2 ^ n.level * c) in
      ends kept X +ℤ (ends kept Y +ℤ ends kept Z))
  unfolding over_cells
  border-total depth =
      let curves : Point → List (Key × Key) =
      λ low. border_curves depth (corner_point n.level low) (regular_key n.level low)
      (regular_signs s n.level low) regular_outlines in
      let cell : ℕ → ℕ → ℕ → List (Key × Key) = λ z y x. curves (cell_corner n z y x) in
      let kept : ℕ → Bool = λ c. lies depth (2 ^ n.level * c) in
      let square : (axis : Axis) → Point → ℤ =
      λ axis at. when (lies depth (coordinate axis at)) (square_flow w s n.level axis at) in
      flow-joined w 16 (λ z. joined 16 (λ y. joined 16 (λ x. cell z y x)))
      ∙ total-same 16 (λ z. flow w (joined 16 (λ y. joined 16 (λ x. cell z y x))))
      (λ z. total 16 (λ y. total 16 (λ x. flow w (cell z y x)))) (λ z z_in.
      flow-joined w 16 (λ y. joined 16 (λ x. cell z y x))
      ∙ total-same 16 (λ y. flow w (joined 16 (λ x. cell z y x)))
      (λ y. total 16 (λ x. flow w (cell z y x))) (λ y y_in. flow-joined w 16 (λ x. cell z y x)))
      ∙ cube-same (λ z y x. flow w (cell z y x))
      (λ z y x. two_squares w s n.level X kept (16 * n.i + x) (16 * n.j + y) (16 * n.k + z) +ℤ
      (two_squares w s n.level Y kept (16 * n.j + y) (16 * n.i + x) (16 * n.k + z)
      +ℤ two_squares w s n.level Z kept (16 * n.k + z) (16 * n.i + x) (16 * n.j + y))) (λ z y x.
      let high = corner-plane n true z y x in
      let low = corner-plane n false z y x in
      regular-border w s depth n.level (cell_corner n z y x)
      ∙ (λ t. (square X (high.0 t) -ℤ square X (low.0 t)) +ℤ
      ((square Y (high.1.0 t) -ℤ square Y (low.1.0 t)) +ℤ
      (square Z (high.1.1 t) -ℤ square Z (low.1.1 t)))))
      ∙ cells-total kept
