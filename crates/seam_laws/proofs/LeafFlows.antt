-- What the cells of a leaf leave open, added up: along each axis the squares and lateral faces between two of them
-- cancel.
--
-- For `RegularTotals` (`squares-total`) and `Transitions` (`sides-total`). A row of 16 cells is a chain in which each
-- high end is the next low end (`row-ends`), so only the two outermost stay, which are the node's own faces or rows.
-- Both are told with a test of planes (`keep`), since the same sums are wanted for all planes and for those on the
-- border.
use Rattle.std.proofs.Common.{◌≡◌, ℕ, suc, ◌+◌, ◌*◌, ◌^◌, ◌<◌, Bool, ap, sym, ◌∙◌, arith, add-zero, add-suc}
use Rattle.std.specs.Prelude.{ℤ, ◌+ℤ◌, ◌-ℤ◌}
use Rattle.std.proofs.lemmas.Int.{ints}
use Rattle.lattice.specs.declared.point.Axis.{Axis}
use Rattle.lattice.specs.declared.point.Axis.TheVariants.{X, Y, Z}
use Rattle.lattice.specs.declared.key.Key.{Key}
use Rattle.lattice.specs.Node.{low_corner}
use Rattle.lattice.specs.Point.{moved}
use Rattle.terrain.specs.Samples.{Field}
use Rattle.lattice.specs.Face.{FaceAxis, lower, higher}
use Rattle.seam_laws.specs.Flows.{total, when}
use Rattle.seam_laws.specs.Seams.{node_after, axis_on, square_flow, segment_flow, face_flow, row_flow}
use Rattle.seam_laws.proofs.NumberSums.{total-same, total-sum, total-difference, total-swap, total-when, total-chain}
use Rattle.seam_laws.proofs.NodePlaces.{node_at, node_at-level, node_at-next, node_at-lower, node_at-higher}
use Rattle.seam_laws.proofs.LowFaceSquares.{point_at, same_point, face-squares}

-- ---- rows of 16 that are numbered from a multiple of 16

-- in a row of cells, what is at the high end of each less what is at its low end
row-ends : (c : ℕ) (f : ℕ → ℤ) → total 16 (λ x. f (suc (16 * c + x)) -ℤ f (16 * c + x))
    ≡ f (16 * suc c) -ℤ f (16 * c)
row-ends c f =
    total-same 16 (λ x. f (suc (16 * c + x)) -ℤ f (16 * c + x))
    (λ x. f (16 * c + suc x) -ℤ f (16 * c + x))
    (λ x x_in. λ t. f (sym (add-suc (16 * c) x) t) -ℤ f (16 * c + x))
    ∙ total-chain 16 (λ x. f (16 * c + x))
    ∙ (λ t. f (last c t) -ℤ f (add-zero (16 * c) t))
  where
    last : (c : ℕ) → 16 * c + 16 ≡ 16 * suc c
    last c = omega arith

-- tests that don't change over a square of places
square-when : (b : Bool) (f : ℕ → ℕ → ℤ) → total 16 (λ v. total 16 (λ u. when b (f u v)))
    ≡ when b (total 16 (λ v. total 16 (λ u. f u v)))
square-when b f =
    total-same 16 (λ v. total 16 (λ u. when b (f u v))) (λ v. when b (total 16 (λ u. f u v)))
    (λ v v_in. total-when 16 b (λ u. f u v))
    ∙ total-when 16 b (λ v. total 16 (λ u. f u v))

-- sums of differences over a square of places
pub square-difference : (f g : ℕ → ℕ → ℤ) → total 16 (λ v. total 16 (λ u. f u v -ℤ g u v))
    ≡ total 16 (λ v. total 16 (λ u. f u v)) -ℤ total 16 (λ v. total 16 (λ u. g u v))
square-difference f g =
    total-same 16 (λ v. total 16 (λ u. f u v -ℤ g u v))
    (λ v. total 16 (λ u. f u v) -ℤ total 16 (λ u. g u v))
    (λ v v_in. total-difference 16 (λ u. f u v) (λ u. g u v))
    ∙ total-difference 16 (λ v. total 16 (λ u. f u v)) (λ v. total 16 (λ u. g u v))

-- sums of sums over a square of places
pub square-sum : (f g : ℕ → ℕ → ℤ) → total 16 (λ v. total 16 (λ u. f u v +ℤ g u v))
    ≡ total 16 (λ v. total 16 (λ u. f u v)) +ℤ total 16 (λ v. total 16 (λ u. g u v))
square-sum f g =
    total-same 16 (λ v. total 16 (λ u. f u v +ℤ g u v))
    (λ v. total 16 (λ u. f u v) +ℤ total 16 (λ u. g u v))
    (λ v v_in. total-sum 16 (λ u. f u v) (λ u. g u v))
    ∙ total-sum 16 (λ v. total 16 (λ u. f u v)) (λ v. total 16 (λ u. g u v))

-- sums of the same numbers over a square of places
pub square-same : (f g : ℕ → ℕ → ℤ) → ((u v : ℕ) → u < 16 → v < 16 → f u v ≡ g u v)
    → total 16 (λ v. total 16 (λ u. f u v)) ≡ total 16 (λ v. total 16 (λ u. g u v))
square-same f g same = total-same 16 (λ v. total 16 (λ u. f u v)) (λ v. total 16 (λ u. g u v))
    (λ v v_in. total-same 16 (λ u. f u v) (λ u. g u v) (λ u u_in. same u v u_in v_in))

-- the same with the low end first
row-ends-back : (c : ℕ) (f : ℕ → ℤ) → total 16 (λ x. f (16 * c + x) -ℤ f (suc (16 * c + x)))
    ≡ f (16 * c) -ℤ f (16 * suc c)
row-ends-back c f =
    let forth = row-ends c f in
    let one = total-difference 16 (λ x. f (suc (16 * c + x))) (λ x. f (16 * c + x)) in
    let other = total-difference 16 (λ x. f (16 * c + x)) (λ x. f (suc (16 * c + x))) in
    omega (arith, ints)

-- ---- where the squares and segments lie

-- the points along a row on the lower axis
lower-point : (level : ℕ) (axis : Axis) (c u v a : ℕ)
    → moved (axis_on axis lower) (2 ^ level * a) (low_corner (node_at level axis c u v))
    ≡ point_at level axis (16 * c) (16 * u + a) (16 * v)
lower-point level X c u v a = same_point _ _ (omega arith) (omega arith) (omega arith)
lower-point level Y c u v a = same_point _ _ (omega arith) (omega arith) (omega arith)
lower-point level Z c u v a = same_point _ _ (omega arith) (omega arith) (omega arith)

-- the points along a row on the higher axis
higher-point : (level : ℕ) (axis : Axis) (c u v a : ℕ)
    → moved (axis_on axis higher) (2 ^ level * a) (low_corner (node_at level axis c u v))
    ≡ point_at level axis (16 * c) (16 * u) (16 * v + a)
higher-point level X c u v a = same_point _ _ (omega arith) (omega arith) (omega arith)
higher-point level Y c u v a = same_point _ _ (omega arith) (omega arith) (omega arith)
higher-point level Z c u v a = same_point _ _ (omega arith) (omega arith) (omega arith)

module _ (w : Key → Key → ℕ) (s : Field) (level : ℕ) (axis : Axis) where
  -- the flow of the square at a place of the level's lattice
  abbrev square_at : ℕ → ℕ → ℕ → ℤ
  square_at c u v = square_flow w s level axis (point_at level axis c u v)

  -- what a cell says of its two squares across the axis, where those in some planes are counted
  abbrev pub two_squares : (ℕ → Bool) → ℕ → ℕ → ℕ → ℤ
  two_squares keep c u v = when (keep (suc c)) (square_at (suc c) u v) -ℤ when (keep c)
      (square_at c u v)

  -- of the squares across the axis between the cells of a leaf, those inside cancel
  pub squares-total : (keep : ℕ → Bool) (c u v : ℕ)
      → total 16 (λ b. total 16 (λ a. total 16
      (λ x. two_squares keep (16 * c + x) (16 * u + a) (16 * v + b))))
      ≡ when (keep (16 * suc c)) (face_flow w s axis (node_after axis (node_at level axis c u v)))
      -ℤ when (keep (16 * c)) (face_flow w s axis (node_at level axis c u v))
  squares-total keep c u v =
      let plane : ℕ → ℕ → ℕ → ℤ = λ c a b. square_at (16 * c) (16 * u + a) (16 * v + b) in
      square-same (λ a b. total 16 (λ x. two_squares keep (16 * c + x) (16 * u + a) (16 * v + b)))
      (λ a b. when (keep (16 * suc c)) (plane (suc c) a b) -ℤ when (keep (16 * c))
      (plane c a b)) (λ a b a_in b_in.
      row-ends c (λ x. when (keep x) (square_at x (16 * u + a) (16 * v + b))))
      ∙ square-difference (λ a b. when (keep (16 * suc c)) (plane (suc c) a b))
      (λ a b. when (keep (16 * c)) (plane c a b))
      ∙ (λ t. square-when (keep (16 * suc c)) (plane (suc c)) t -ℤ square-when (keep (16 * c))
      (plane c) t)
      ∙ (λ t. when (keep (16 * suc c)) (sym (face-squares w s level axis (suc c) u v) t)
      -ℤ when (keep (16 * c)) (sym (face-squares w s level axis c u v) t))
      ∙ (λ t. when (keep (16 * suc c)) (face_flow w s axis (sym (node_at-next level axis c u v) t))
      -ℤ when (keep (16 * c)) (face_flow w s axis (node_at level axis c u v)))

  -- the flow of the segment at a place of the lattice
  abbrev pub segment_at : FaceAxis → ℕ → ℕ → ℕ → ℤ
  segment_at along c u v = segment_flow w s level axis along (point_at level axis c u v)

  -- the rows from a node's low corner
  row-lower : (c u v : ℕ) → row_flow w s axis lower (node_at level axis c u v)
      ≡ total 16 (λ t. segment_at lower (16 * c) (16 * u + t) (16 * v))
  unfolding row_flow
  row-lower c u v =
      let n = node_at level axis c u v in
      total-same 16 (λ a. segment_flow w s n.level axis lower
      (moved (axis_on axis lower) (2 ^ n.level * a) (low_corner n)))
      (λ a. segment_at lower (16 * c) (16 * u + a) (16 * v)) (λ a a_in.
      ap (λ k. segment_flow w s k axis lower (moved (axis_on axis lower) (2 ^ k * a)
      (low_corner n))) (node_at-level level axis c u v)
      ∙ ap (segment_flow w s level axis lower) (lower-point level axis c u v a))

  -- the row along the higher axis
  row-higher : (c u v : ℕ) → row_flow w s axis higher (node_at level axis c u v)
      ≡ total 16 (λ t. segment_at higher (16 * c) (16 * u) (16 * v + t))
  unfolding row_flow
  row-higher c u v =
      let n = node_at level axis c u v in
      total-same 16 (λ a. segment_flow w s n.level axis higher
      (moved (axis_on axis higher) (2 ^ n.level * a) (low_corner n)))
      (λ a. segment_at higher (16 * c) (16 * u) (16 * v + a)) (λ a a_in.
      ap (λ k. segment_flow w s k axis higher
      (moved (axis_on axis higher) (2 ^ k * a) (low_corner n))) (node_at-level level axis c u v)
      ∙ ap (segment_flow w s level axis higher) (higher-point level axis c u v a))

  -- what a transition cell says of its four lateral faces, where those in some planes are counted
  abbrev pub four_sides : (ℕ → Bool) → (ℕ → Bool) → ℕ → ℕ → ℕ → ℤ
  four_sides keep_u keep_v c u v =
      (when (keep_v v) (segment_at lower c u v) -ℤ when (keep_v (suc v))
      (segment_at lower c u (suc v)))
      +ℤ (when (keep_u (suc u)) (segment_at higher c (suc u) v) -ℤ when (keep_u u)
      (segment_at higher c u v))

  -- of the lateral faces between the transition cells on a leaf's face, those inside cancel
  pub sides-total : (keep_u keep_v : ℕ → Bool) (c u v : ℕ)
      → (let n = node_at level axis c u v in
      total 16 (λ b. total 16 (λ a. four_sides keep_u keep_v (16 * c) (16 * u + a) (16 * v + b)))
      ≡ (when (keep_v (16 * v)) (row_flow w s axis lower n) -ℤ when (keep_v (16 * suc v))
      (row_flow w s axis lower (node_after (axis_on axis higher) n)))
      +ℤ (when (keep_u (16 * suc u)) (row_flow w s axis higher (node_after (axis_on axis lower) n))
      -ℤ when (keep_u (16 * u)) (row_flow w s axis higher n)))
  sides-total keep_u keep_v c u v =
      let n = node_at level axis c u v in
      let low : ℕ → ℕ → ℤ = λ a y. when (keep_v y) (segment_at lower (16 * c) (16 * u + a) y) in
      let high : ℕ → ℕ → ℤ = λ x b. when (keep_u x) (segment_at higher (16 * c) x (16 * v + b)) in
      let lows : total 16 (λ b. total 16 (λ a. low a (16 * v + b) -ℤ low a (suc (16 * v + b))))
      ≡ when (keep_v (16 * v)) (row_flow w s axis lower n) -ℤ when (keep_v (16 * suc v))
      (row_flow w s axis lower (node_after (axis_on axis higher) n)) =
      total-swap 16 16 (λ b a. low a (16 * v + b) -ℤ low a (suc (16 * v + b)))
      ∙ total-same 16 (λ a. total 16 (λ b. low a (16 * v + b) -ℤ low a (suc (16 * v + b))))
      (λ a. low a (16 * v) -ℤ low a (16 * suc v)) (λ a a_in. row-ends-back v (low a))
      ∙ total-difference 16 (λ a. low a (16 * v)) (λ a. low a (16 * suc v))
      ∙ (λ t. total-when 16 (keep_v (16 * v)) (λ a. segment_at lower (16 * c) (16 * u + a) (16 * v))
      t -ℤ total-when 16 (keep_v (16 * suc v))
      (λ a. segment_at lower (16 * c) (16 * u + a) (16 * suc v)) t)
      ∙ (λ t. when (keep_v (16 * v)) (sym (row-lower c u v) t) -ℤ when (keep_v (16 * suc v))
      (sym (row-lower c u (suc v)) t))
      ∙ (λ t. when (keep_v (16 * v)) (row_flow w s axis lower n) -ℤ when (keep_v (16 * suc v))
      (row_flow w s axis lower (sym (node_at-higher level axis c u v) t))) in
      let highs : total 16 (λ b. total 16 (λ a. high (suc (16 * u + a)) b -ℤ high (16 * u + a) b))
      ≡ when (keep_u (16 * suc u)) (row_flow w s axis higher (node_after (axis_on axis lower) n))
      -ℤ when (keep_u (16 * u)) (row_flow w s axis higher n) =
      total-same 16 (λ b. total 16 (λ a. high (suc (16 * u + a)) b -ℤ high (16 * u + a) b))
      (λ b. high (16 * suc u) b -ℤ high (16 * u) b) (λ b b_in. row-ends u (λ x. high x b))
      ∙ total-difference 16 (λ b. high (16 * suc u) b) (λ b. high (16 * u) b)
      ∙ (λ t. total-when 16 (keep_u (16 * suc u))
      (λ b. segment_at higher (16 * c) (16 * suc u) (16 * v + b)) t -ℤ total-when 16
      (keep_u (16 * u)) (λ b. segment_at higher (16 * c) (16 * u) (16 * v + b)) t)
      ∙ (λ t. when (keep_u (16 * suc u)) (sym (row-higher c (suc u) v) t) -ℤ when (keep_u (16 * u))
      (sym (row-higher c u v) t))
      ∙ (λ t. when (keep_u (16 * suc u)) (row_flow w s axis higher
      (sym (node_at-lower level axis c u v) t)) -ℤ when (keep_u (16 * u))
      (row_flow w s axis higher n)) in
      square-sum (λ a b. low a (16 * v + b) -ℤ low a (suc (16 * v + b)))
      (λ a b. high (suc (16 * u + a)) b -ℤ high (16 * u + a) b)
      ∙ (λ t. lows t +ℤ highs t)
