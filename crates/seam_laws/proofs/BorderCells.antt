-- What one cell has on the border of the world: a regular cell its squares there, a transition cell its lateral faces
-- there.
--
-- For `RegularTotals` (`regular-border`) and `BorderTransitions` (`at-square` and the four lemmas behind it). Each face
-- of a cell is tested as `OnBorder` says: here its corners are named and their coordinates worked out. For transition
-- cells this is for a face inside the world, so none of the five squares is on the border (`at-square`), and a lateral
-- face is where its index along the other axis is at the world's end.
use Rattle.std.proofs.Common.{◌≡◌, ℕ, zero, suc, ◌+◌, ◌-◌, ◌*◌, ◌/◌, ◌%◌, ◌^◌, ◌<◌, ◌≤◌, Bool, true, false, List, [], ◌∷◌, map, refl, ap, sym, ◌∙◌, arith}
use Rattle.std.specs.Prelude.{ℤ, pos, ◌+ℤ◌, ◌-ℤ◌, neg_ℤ}
use Rattle.std.proofs.Math.Nat.{le_of_mul-le-mul_right}
use Rattle.std.proofs.lemmas.Nat.{pow_pos}
use Rattle.lattice.specs.declared.point.Point.{Point}
use Rattle.lattice.specs.declared.point.Axis.{Axis}
use Rattle.lattice.specs.declared.point.Axis.TheVariants.{X, Y, Z}
use Rattle.lattice.specs.declared.key.Key.{Key}
use Rattle.lattice.specs.Point.{coordinate}
use Rattle.terrain.specs.Samples.{Field}
use Rattle.terrain.specs.Cells.{Outline, polygon, corner_point, regular_signs, regular_key, regular_outlines, fine_point, straight_outlines, reversed}
use Rattle.lattice.specs.Face.{lower, higher}
use Rattle.terrain.specs.Blocks.{lie_on_border, border_curves}
use Rattle.cell_laws.specs.Squares.{low_face, corner_on, outline_at, keyed}
use Rattle.seam_laws.specs.Flows.{flow, when}
use Rattle.seam_laws.specs.Seams.{int_sum, axis_on, square_flow}
use Rattle.seam_laws.proofs.FlowLemmas.{flow-filter}
use Rattle.seam_laws.proofs.CellFlows.{face_on, regular-flow, six-faces}
use Rattle.seam_laws.proofs.OnBorder.{lies, square-lies, lower-lies, higher-lies}

-- ---- regular cells

module _ (depth level : ℕ) (low : Point) where
  -- a corner of the regular cell
  abbrev corner : ℕ → Point
  corner n = corner_point level low n

  -- the square on the low face across X
  x-low : lie_on_border depth (corner 0 ∷ corner 4 ∷ corner 6 ∷ corner 2 ∷ [])
      ≡ lies depth (low.x + 0)
  x-low = square-lies depth X (low.x + 0) (corner 0) (corner 4) (corner 6) (corner 2) (omega arith)
      (omega arith) (omega arith) (omega arith) (λ e. omega (arith, pow_pos level))
      (λ e. omega (arith, pow_pos level))

  -- on the high face across X
  x-high : lie_on_border depth (corner 1 ∷ corner 3 ∷ corner 7 ∷ corner 5 ∷ [])
      ≡ lies depth (low.x + 2 ^ level)
  x-high = square-lies depth X (low.x + 2 ^ level) (corner 1) (corner 3) (corner 7) (corner 5)
      (omega arith) (omega arith) (omega arith) (omega arith) (λ e. omega (arith, pow_pos level))
      (λ e. omega (arith, pow_pos level))

  -- on the low face across Y
  y-low : lie_on_border depth (corner 0 ∷ corner 1 ∷ corner 5 ∷ corner 4 ∷ [])
      ≡ lies depth (low.y + 0)
  y-low = square-lies depth Y (low.y + 0) (corner 0) (corner 1) (corner 5) (corner 4) (omega arith)
      (omega arith) (omega arith) (omega arith) (λ e. omega (arith, pow_pos level))
      (λ e. omega (arith, pow_pos level))

  -- on the high face across Y
  y-high : lie_on_border depth (corner 2 ∷ corner 6 ∷ corner 7 ∷ corner 3 ∷ [])
      ≡ lies depth (low.y + 2 ^ level)
  y-high = square-lies depth Y (low.y + 2 ^ level) (corner 2) (corner 6) (corner 7) (corner 3)
      (omega arith) (omega arith) (omega arith) (omega arith) (λ e. omega (arith, pow_pos level))
      (λ e. omega (arith, pow_pos level))

  -- on the low face across Z
  z-low : lie_on_border depth (corner 0 ∷ corner 2 ∷ corner 3 ∷ corner 1 ∷ [])
      ≡ lies depth (low.z + 0)
  z-low = square-lies depth Z (low.z + 0) (corner 0) (corner 2) (corner 3) (corner 1) (omega arith)
      (omega arith) (omega arith) (omega arith) (λ e. omega (arith, pow_pos level))
      (λ e. omega (arith, pow_pos level))

  -- on the high face across Z
  z-high : lie_on_border depth (corner 4 ∷ corner 5 ∷ corner 7 ∷ corner 6 ∷ [])
      ≡ lies depth (low.z + 2 ^ level)
  z-high = square-lies depth Z (low.z + 2 ^ level) (corner 4) (corner 5) (corner 7) (corner 6)
      (omega arith) (omega arith) (omega arith) (omega arith) (λ e. omega (arith, pow_pos level))
      (λ e. omega (arith, pow_pos level))

-- a negative number under a test
when-minus : (b : Bool) (x : ℤ) → when b (neg_ℤ x) ≡ neg_ℤ (when b x)
when-minus true x = refl
when-minus false x = refl

-- a regular cell's curves in the border are those of its squares there
pub regular-border : (w : Key → Key → ℕ) (s : Field) (depth level : ℕ) (low : Point)
    → (let square : Axis → Bool → ℤ = λ axis high.
    (let at = corner_on level (face_on axis high) low in
    when (lies depth (coordinate axis at)) (square_flow w s level axis at)) in
    flow w (border_curves depth (corner_point level low) (regular_key level low)
    (regular_signs s level low) regular_outlines)
    ≡ (square X true -ℤ square X false) +ℤ
    ((square Y true -ℤ square Y false) +ℤ (square Z true -ℤ square Z false)))
regular-border w s depth level low =
    let plane : Axis → Bool → ℕ = λ axis high. coordinate axis
    (corner_on level (face_on axis high) low) in
    let square : Axis → Bool → ℤ = λ axis high. square_flow w s level axis
    (corner_on level (face_on axis high) low) in
    let kept : Axis → Bool → ℤ = λ axis high. when (lies depth (plane axis high)) (square axis high)
    in
    flow-filter w (λ face. keyed (regular_key level low) (polygon (regular_signs s level low) face))
    (λ face. lie_on_border depth (map (corner_point level low) face.corners)) regular_outlines
    ∙ (λ t. when (x-low depth level low t) (regular-flow w s level X false low t) +ℤ
    (when (x-high depth level low t) (regular-flow w s level X true low t)
    +ℤ (when (y-low depth level low t) (regular-flow w s level Y false low t) +ℤ
    (when (y-high depth level low t) (regular-flow w s level Y true low t)
    +ℤ (when (z-low depth level low t) (regular-flow w s level Z false low t) +ℤ
    (when (z-high depth level low t) (regular-flow w s level Z true low t) +ℤ pos 0))))))
    ∙ (λ t. when-minus (lies depth (plane X false)) (square X false) t +ℤ
    (kept X true +ℤ (when-minus (lies depth (plane Y false)) (square Y false) t +ℤ (kept Y true
    +ℤ (when-minus (lies depth (plane Z false)) (square Z false) t +ℤ (kept Z true +ℤ pos 0))))))
    ∙ six-faces (kept X false) (kept X true) (kept Y false) (kept Y true) (kept Z false)
    (kept Z true)

-- ---- transition cells

-- the same multiple added leaves the same factor
cancelled : (c h a b : ℕ) → 0 < h → c + h * a ≡ c + h * b → a ≡ b
cancelled c h a b some e =
    let low : a ≤ b = le_of_mul-le-mul_right {k = h} (omega arith) some in
    let high : b ≤ a = le_of_mul-le-mul_right {k = h} (omega arith) some in
    omega arith

-- the nine outlines in either turn
abbrev pub outlines : Bool → List Outline
outlines straight =
    elim straight [ true ↦ straight_outlines | false ↦ map reversed straight_outlines ]

-- a sum over the nine outlines, written out
pub nine-outlines : (straight : Bool) (f : Outline → ℤ)
    → (let at : ℕ → ℤ = λ place. f (outline_at (outlines straight) place) in
    int_sum (map f (outlines straight)) ≡ at 0 +ℤ
    (at 1 +ℤ (at 2 +ℤ (at 3 +ℤ (at 4 +ℤ (at 5 +ℤ (at 6 +ℤ (at 7 +ℤ (at 8 +ℤ pos 0)))))))))
nine-outlines true f = refl
nine-outlines false f = refl

-- a fine point's coordinate across the face
fine-across : (level : ℕ) (axis : Axis) (low : Point) (n : ℕ)
    → coordinate axis (fine_point level (low_face axis) low n) ≡ coordinate axis low
fine-across level X low n = refl
fine-across level Y low n = refl
fine-across level Z low n = refl

-- along the lower axis
fine-u : (level : ℕ) (axis : Axis) (low : Point) (n : ℕ)
    → coordinate (axis_on axis lower) (fine_point level (low_face axis) low n)
    ≡ coordinate (axis_on axis lower) low + 2 ^ (level - 1) * (n % 3)
fine-u level X low n = refl
fine-u level Y low n = refl
fine-u level Z low n = refl

-- along the higher axis
fine-v : (level : ℕ) (axis : Axis) (low : Point) (n : ℕ)
    → coordinate (axis_on axis higher) (fine_point level (low_face axis) low n)
    ≡ coordinate (axis_on axis higher) low + 2 ^ (level - 1) * (n / 3)
fine-v level X low n = refl
fine-v level Y low n = refl
fine-v level Z low n = refl

module _ (depth level : ℕ) (axis : Axis) (low : Point) where
  -- a fine point of the transition cell
  abbrev fine : ℕ → Point
  fine n = fine_point level (low_face axis) low n

  -- fine points in different columns differ along the lower axis
  differ-u : (i k : ℕ) → (i % 3 ≡ k % 3 → ⊥) → coordinate (axis_on axis lower) (fine i)
      ≡ coordinate (axis_on axis lower) (fine k) → ⊥
  differ-u i k differ e =
      differ (cancelled (coordinate (axis_on axis lower) low) (2 ^ (level - 1)) (i % 3) (k % 3)
      (pow_pos (level - 1)) (sym (fine-u level axis low i) ∙ e ∙ fine-u level axis low k))

  -- fine points in different rows differ along the higher axis
  differ-v : (i k : ℕ) → (i / 3 ≡ k / 3 → ⊥) → coordinate (axis_on axis higher) (fine i)
      ≡ coordinate (axis_on axis higher) (fine k) → ⊥
  differ-v i k differ e =
      differ (cancelled (coordinate (axis_on axis higher) low) (2 ^ (level - 1)) (i / 3) (k / 3)
      (pow_pos (level - 1)) (sym (fine-v level axis low i) ∙ e ∙ fine-v level axis low k))

  -- the coarse square and the fine ones
  square-off : (i j k l : ℕ) → (i % 3 ≡ k % 3 → ⊥) → (i / 3 ≡ k / 3 → ⊥)
      → lie_on_border depth (fine i ∷ fine j ∷ fine k ∷ fine l ∷ [])
      ≡ lies depth (coordinate axis low)
  square-off i j k l du dv =
      square-lies depth axis (coordinate axis low) (fine i) (fine j) (fine k) (fine l)
      (fine-across level axis low i) (fine-across level axis low j)
      (fine-across level axis low k) (fine-across level axis low l) (differ-u i k du)
      (differ-v i k dv)

  module _ (inside : lies depth (coordinate axis low) ≡ false) where
    -- the lateral faces along each of the two axes
    lower-side : (i j k l n q : ℕ) → (i % 3 ≡ k % 3 → ⊥) → i / 3 ≡ q → j / 3 ≡ q → k / 3 ≡ q
        → l / 3 ≡ q → n / 3 ≡ q
        → lie_on_border depth (fine i ∷ fine j ∷ fine k ∷ fine l ∷ fine n ∷ [])
        ≡ lies depth (coordinate (axis_on axis higher) low + 2 ^ (level - 1) * q)
    lower-side i j k l n q du ei ej ek el en =
        let at : (p : ℕ) → p / 3 ≡ q → coordinate (axis_on axis higher) (fine p)
        ≡ coordinate (axis_on axis higher) low + 2 ^ (level - 1) * q =
        λ p e. fine-v level axis low p
        ∙ ap (λ x. coordinate (axis_on axis higher) low + 2 ^ (level - 1) * x) e in
        lower-lies depth axis (coordinate axis low)
        (coordinate (axis_on axis higher) low + 2 ^ (level - 1) * q) (fine i) (fine j) (fine k)
        (fine l) (fine n) inside
        (fine-across level axis low i) (fine-across level axis low j) (fine-across level axis low k)
        (fine-across level axis low l) (fine-across level axis low n) (differ-u i k du)
        (at i ei) (at j ej) (at k ek) (at l el) (at n en)

    -- the same along the higher axis
    higher-side : (i j k l n q : ℕ) → (i / 3 ≡ k / 3 → ⊥) → i % 3 ≡ q → j % 3 ≡ q → k % 3 ≡ q
        → l % 3 ≡ q → n % 3 ≡ q
        → lie_on_border depth (fine i ∷ fine j ∷ fine k ∷ fine l ∷ fine n ∷ [])
        ≡ lies depth (coordinate (axis_on axis lower) low + 2 ^ (level - 1) * q)
    higher-side i j k l n q dv ei ej ek el en =
        let at : (p : ℕ) → p % 3 ≡ q → coordinate (axis_on axis lower) (fine p)
        ≡ coordinate (axis_on axis lower) low + 2 ^ (level - 1) * q =
        λ p e. fine-u level axis low p
        ∙ ap (λ x. coordinate (axis_on axis lower) low + 2 ^ (level - 1) * x) e in
        higher-lies depth axis (coordinate axis low)
        (coordinate (axis_on axis lower) low + 2 ^ (level - 1) * q) (fine i) (fine j) (fine k)
        (fine l) (fine n) inside
        (fine-across level axis low i) (fine-across level axis low j) (fine-across level axis low k)
        (fine-across level axis low l) (fine-across level axis low n) (differ-v i k dv)
        (at i ei) (at j ej) (at k ek) (at l el) (at n en)

    -- ---- the nine faces, in either turn

    -- whether the face at a place of the nine lies on the border
    abbrev test : Bool → ℕ → Bool
    test straight place =
        lie_on_border depth (map fine (outline_at (outlines straight) place).corners)

    -- the coordinate of row q along the higher axis
    abbrev low_v : ℕ → ℕ
    low_v q = coordinate (axis_on axis higher) low + 2 ^ (level - 1) * q

    -- the coordinate of column q along the lower axis
    abbrev low_u : ℕ → ℕ
    low_u q = coordinate (axis_on axis lower) low + 2 ^ (level - 1) * q

    -- a square of a transition cell lies off the border
    pub at-square : (straight : Bool) (place : ℕ) → place < 5 → test straight place ≡ false
    at-square true zero few = square-off 0 1 4 3 (λ e. omega arith) (λ e. omega arith) ∙ inside
    at-square true (suc zero) few = square-off 1 2 5 4 (λ e. omega arith) (λ e. omega arith)
        ∙ inside
    at-square true (suc (suc zero)) few = square-off 3 4 7 6 (λ e. omega arith) (λ e. omega arith)
        ∙ inside
    at-square true (suc (suc (suc zero))) few =
        square-off 4 5 8 7 (λ e. omega arith) (λ e. omega arith) ∙ inside
    at-square true (suc (suc (suc (suc zero)))) few =
        square-off 0 6 8 2 (λ e. omega arith) (λ e. omega arith) ∙ inside
    at-square false zero few = square-off 3 4 1 0 (λ e. omega arith) (λ e. omega arith) ∙ inside
    at-square false (suc zero) few = square-off 4 5 2 1 (λ e. omega arith) (λ e. omega arith)
        ∙ inside
    at-square false (suc (suc zero)) few = square-off 6 7 4 3 (λ e. omega arith) (λ e. omega arith)
        ∙ inside
    at-square false (suc (suc (suc zero))) few =
        square-off 7 8 5 4 (λ e. omega arith) (λ e. omega arith) ∙ inside
    at-square false (suc (suc (suc (suc zero)))) few =
        square-off 2 8 6 0 (λ e. omega arith) (λ e. omega arith) ∙ inside
    at-square straight (suc (suc (suc (suc (suc place))))) few = absurd (omega arith)

    -- a lateral face lies on it where its place across the lower or the higher axis does
    pub at-lower-near : (straight : Bool) → test straight 5 ≡ lies depth (low_v 0)
    at-lower-near true = lower-side 0 2 2 1 0 0 (λ e. omega arith) refl refl refl refl refl
    at-lower-near false = lower-side 0 1 2 2 0 0 (λ e. omega arith) refl refl refl refl refl

    -- the same of the far one on the higher axis
    pub at-higher-far : (straight : Bool) → test straight 6 ≡ lies depth (low_u 2)
    at-higher-far true = higher-side 2 8 8 5 2 2 (λ e. omega arith) refl refl refl refl refl
    at-higher-far false = higher-side 2 5 8 8 2 2 (λ e. omega arith) refl refl refl refl refl

    -- of the far one on the lower axis
    pub at-lower-far : (straight : Bool) → test straight 7 ≡ lies depth (low_v 2)
    at-lower-far true = lower-side 8 6 6 7 8 2 (λ e. omega arith) refl refl refl refl refl
    at-lower-far false = lower-side 8 7 6 6 8 2 (λ e. omega arith) refl refl refl refl refl

    -- and of the near one on the higher axis
    pub at-higher-near : (straight : Bool) → test straight 8 ≡ lies depth (low_u 0)
    at-higher-near true = higher-side 6 0 0 3 6 0 (λ e. omega arith) refl refl refl refl refl
    at-higher-near false = higher-side 6 3 0 0 6 0 (λ e. omega arith) refl refl refl refl refl
