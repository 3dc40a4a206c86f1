-- The squares of a node's low face by the lattice of their level, and the fine ones as those of four faces of the level
-- below.
--
-- For `below` of `FaceSums`, which needs `fine-faces`: the 32 x 32 fine squares of a face are told in fours (as its
-- definition tells them, four to a coarse square) and in quarters (16 x 16 to a face of the level below), and both are
-- one sum over `square 32` (`square-pairs`, `square-quarters`). The lemmas before say where the squares lie
-- (`corner-at`, `fine-at`).
use Rattle.std.proofs.Common.{◌≡◌, ℕ, suc, ◌+◌, ◌-◌, ◌*◌, ◌^◌, refl, ap, sym, ◌∙◌, arith, add-zero, ◌%◌, ◌/◌}
use Rattle.std.specs.Prelude.{ℤ, ◌+ℤ◌}
use Rattle.std.proofs.Math.Nat.{pow-suc}
use Rattle.std.proofs.lemmas.Int.{ints}
use Rattle.lattice.specs.declared.point.Point.{Point}
use Rattle.lattice.specs.declared.point.Axis.{Axis}
use Rattle.lattice.specs.declared.point.Axis.TheVariants.{X, Y, Z}
use Rattle.lattice.specs.declared.key.Key.{Key}
use Rattle.terrain.specs.Samples.{Field}
use Rattle.terrain.specs.Cells.{fine_point}
use Rattle.terrain.specs.Blocks.{square_corner}
use Rattle.cell_laws.specs.Squares.{low_face, fine_corner}
use Rattle.seam_laws.specs.Flows.{total}
use Rattle.seam_laws.specs.Seams.{square_flow, face_flow, fine_flow}
use Rattle.seam_laws.proofs.NumberSums.{total-same, total-sum, total-rows, total-pairs, total-four}
use Rattle.seam_laws.proofs.NodePlaces.{node_at, node_at-level}

-- the point of a level's lattice at c across an axis, at u along the lower and at v along the higher of the others
abbrev pub point_at : ℕ → Axis → ℕ → ℕ → ℕ → Point
point_at level X c u v = record { z = 2 ^ level * v; y = 2 ^ level * u; x = 2 ^ level * c }
point_at level Y c u v = record { z = 2 ^ level * v; y = 2 ^ level * c; x = 2 ^ level * u }
point_at level Z c u v = record { z = 2 ^ level * c; y = 2 ^ level * v; x = 2 ^ level * u }

-- points with the same coordinates
pub same_point : (a b : Point) → a.z ≡ b.z → a.y ≡ b.y → a.x ≡ b.x → a ≡ b
same_point a b z y x = λ t. record { z = z t; y = y t; x = x t }

-- ---- the squares of a face

-- the squares of a node's low face by the lattice of its level
pub corner-at : (level : ℕ) (axis : Axis) (c u v b a : ℕ)
    → square_corner (node_at level axis c u v) (low_face axis) b a ≡ point_at level axis (16 * c)
    (16 * u + a) (16 * v + b)
corner-at level X c u v b a = same_point _ _ (omega arith) (omega arith) (omega arith)
corner-at level Y c u v b a = same_point _ _ (omega arith) (omega arith) (omega arith)
corner-at level Z c u v b a = same_point _ _ (omega arith) (omega arith) (omega arith)

-- a fine point that is p halves along the lower axis and q along the higher one
fine-at : (l : ℕ) (axis : Axis) (c u v b a n p q : ℕ) → n % 3 ≡ p → n / 3 ≡ q
    → fine_point (suc l) (low_face axis) (square_corner (node_at (suc l) axis c u v) (low_face axis)
    b a) n ≡ point_at l axis (32 * c) (32 * u + (2 * a + p)) (32 * v + (2 * b + q))
fine-at l X c u v b a n p q ep eq =
    let twice : 2 ^ suc l ≡ 2 * 2 ^ l = pow-suc 2 l ∙ omega arith in
    let less : 2 ^ (suc l - 1) ≡ 2 ^ l = ap (λ k. 2 ^ k) (omega arith) in
    rw (ep, eq, less, twice) (same_point _ _ (omega arith) (omega arith) (omega arith))
fine-at l Y c u v b a n p q ep eq =
    let twice : 2 ^ suc l ≡ 2 * 2 ^ l = pow-suc 2 l ∙ omega arith in
    let less : 2 ^ (suc l - 1) ≡ 2 ^ l = ap (λ k. 2 ^ k) (omega arith) in
    rw (ep, eq, less, twice) (same_point _ _ (omega arith) (omega arith) (omega arith))
fine-at l Z c u v b a n p q ep eq =
    let twice : 2 ^ suc l ≡ 2 * 2 ^ l = pow-suc 2 l ∙ omega arith in
    let less : 2 ^ (suc l - 1) ≡ 2 ^ l = ap (λ k. 2 ^ k) (omega arith) in
    rw (ep, eq, less, twice) (same_point _ _ (omega arith) (omega arith) (omega arith))

-- ---- a square of 32 by 32 places

-- the sum of f over n by n places
abbrev square : ℕ → (ℕ → ℕ → ℤ) → ℤ
square n f = total n (λ b. total n (λ a. f a b))

-- sums of the same numbers
square-same : (n : ℕ) (f g : ℕ → ℕ → ℤ) → ((a b : ℕ) → f a b ≡ g a b) → square n f ≡ square n g
square-same n f g same = total-same n (λ b. total n (λ a. f a b)) (λ b. total n (λ a. g a b))
    (λ b b_in. total-same n (λ a. f a b) (λ a. g a b) (λ a a_in. same a b))

-- a sum of sums
square-sum : (n : ℕ) (f g : ℕ → ℕ → ℤ) → square n (λ a b. f a b +ℤ g a b) ≡ square n f +ℤ square n g
square-sum n f g =
    total-same n (λ b. total n (λ a. f a b +ℤ g a b))
    (λ b. total n (λ a. f a b) +ℤ total n (λ a. g a b))
    (λ b b_in. total-sum n (λ a. f a b) (λ a. g a b))
    ∙ total-sum n (λ b. total n (λ a. f a b)) (λ b. total n (λ a. g a b))

-- by squares of four places
square-pairs : (n : ℕ) (f : ℕ → ℕ → ℤ)
    → square (2 * n) f ≡ square n (λ a b. (f (2 * a) (2 * b) +ℤ f (2 * a + 1) (2 * b)) +ℤ
    (f (2 * a) (2 * b + 1) +ℤ f (2 * a + 1) (2 * b + 1)))
square-pairs n f =
    let row : ℕ → ℤ = λ b. total (2 * n) (λ a. f a b) in
    let pair : ℕ → ℕ → ℤ = λ a b. f (2 * a) b +ℤ f (2 * a + 1) b in
    total-pairs n row
    ∙ total-same n (λ b. row (2 * b) +ℤ row (2 * b + 1))
    (λ b. total n (λ a. pair a (2 * b) +ℤ pair a (2 * b + 1))) (λ b b_in.
    omega (
      arith,
      ints,
      total-pairs n (λ a. f a (2 * b)),
      total-pairs n (λ a. f a (2 * b + 1)),
      total-sum n (λ a. pair a (2 * b)) (λ a. pair a (2 * b + 1)),
    ))

-- by four quarters
square-quarters : (n : ℕ) (f : ℕ → ℕ → ℤ)
    → square (n + n) f ≡ (square n f +ℤ square n (λ a b. f (n + a) b)) +ℤ
    (square n (λ a b. f a (n + b)) +ℤ square n (λ a b. f (n + a) (n + b)))
square-quarters n f =
    let half : (g : ℕ → ℕ → ℤ) → total n (λ b. total (n + n) (λ a. g a b)) ≡ square n g +ℤ square n
    (λ a b. g (n + a) b) =
    λ g. total-same n (λ b. total (n + n) (λ a. g a b))
    (λ b. total n (λ a. g a b) +ℤ total n (λ a. g (n + a) b))
    (λ b b_in. total-rows n n (λ a. g a b))
    ∙ total-sum n (λ b. total n (λ a. g a b)) (λ b. total n (λ a. g (n + a) b)) in
    total-rows n n (λ b. total (n + n) (λ a. f a b))
    ∙ omega (arith, ints, half f, half (λ a b. f a (n + b)))

-- four parts that are the same
four-same : {a a' b b' c c' d d' : ℤ} → a ≡ a' → b ≡ b' → c ≡ c' → d ≡ d'
    → (a +ℤ b) +ℤ (c +ℤ d) ≡ (a' +ℤ b') +ℤ (c' +ℤ d')
four-same ea eb ec ed = λ t. (ea t +ℤ eb t) +ℤ (ec t +ℤ ed t)

-- a coordinate with 0 added, on both axes
with_zeros : (q : ℕ → ℕ → ℤ) (a b : ℕ) → q (a + 0) (b + 0) ≡ q a b
with_zeros q a b = rw (add-zero a, add-zero b) refl

-- on the lower axis
with_zero_a : (q : ℕ → ℕ → ℤ) (a b : ℕ) → q (a + 0) b ≡ q a b
with_zero_a q a b = rw (add-zero a) refl

-- on the higher axis
with_zero_b : (q : ℕ → ℕ → ℤ) (a b : ℕ) → q a (b + 0) ≡ q a b
with_zero_b q a b = rw (add-zero b) refl

-- a coordinate with 0 added before it
zero-plus : (a : ℕ) → a ≡ 0 + a
zero-plus a = omega arith

-- the first quarter, written as the other ones
quarters-zero : (q : ℕ → ℕ → ℤ) → square 16 q ≡ square 16 (λ a b. q (0 + a) (0 + b))
quarters-zero q = square-same 16 q (λ a b. q (0 + a) (0 + b))
    (λ a b. λ t. q (zero-plus a t) (zero-plus b t))

-- the quarter along the higher axis, written so
quarters-a : (q : ℕ → ℕ → ℤ) → square 16 (λ a b. q a (16 + b))
    ≡ square 16 (λ a b. q (0 + a) (16 + b))
quarters-a q = square-same 16 (λ a b. q a (16 + b)) (λ a b. q (0 + a) (16 + b))
    (λ a b. λ t. q (zero-plus a t) (16 + b))

-- the quarter along the lower axis, written so
quarters-b : (q : ℕ → ℕ → ℤ) → square 16 (λ a b. q (16 + a) b)
    ≡ square 16 (λ a b. q (16 + a) (0 + b))
quarters-b q = square-same 16 (λ a b. q (16 + a) b) (λ a b. q (16 + a) (0 + b))
    (λ a b. λ t. q (16 + a) (zero-plus b t))

-- 32 places of the level below are 16 of twice the index
twice_sixteen : (c : ℕ) → 32 * c ≡ 16 * (2 * c)
twice_sixteen c = omega arith

-- a place in a quarter, from the quarter's own corner
added : (x d y a : ℕ) → x + d ≡ y → x + (d + a) ≡ y + a
added x d y a e = omega arith

-- ---- faces by their squares

module _ (w : Key → Key → ℕ) (s : Field) where
  -- the flow of a node's low face is that of its squares
  pub face-squares : (level : ℕ) (axis : Axis) (c u v : ℕ)
      → face_flow w s axis (node_at level axis c u v)
      ≡ total 16 (λ b. total 16 (λ a. square_flow w s level axis
      (point_at level axis (16 * c) (16 * u + a) (16 * v + b))))
  unfolding face_flow
  face-squares level axis c u v =
      let n = node_at level axis c u v in
      square-same 16 (λ a b. square_flow w s n.level axis (square_corner n (low_face axis) b a))
      (λ a b. square_flow w s level axis (point_at level axis (16 * c) (16 * u + a)
      (16 * v + b))) (λ a b.
      λ t. square_flow w s (node_at-level level axis c u v t) axis
      (corner-at level axis c u v b a t))

  -- the fine squares of a face are those of four faces of the level below
  pub fine-faces : (l : ℕ) (axis : Axis) (c u v : ℕ)
      → (let face : ℕ → ℕ → ℤ = λ a b. face_flow w s axis (node_at l axis (2 * c) a b) in
      fine_flow w s axis (node_at (suc l) axis c u v)
      ≡ (face (2 * u) (2 * v) +ℤ face (2 * u + 1) (2 * v)) +ℤ
      (face (2 * u) (2 * v + 1) +ℤ face (2 * u + 1) (2 * v + 1)))
  unfolding fine_flow
  fine-faces l axis c u v =
      let n = node_at (suc l) axis c u v in
      let level : n.level - 1 ≡ l = ap (λ k. k - 1) (node_at-level (suc l) axis c u v)
      ∙ omega arith in
      let q : ℕ → ℕ → ℤ = λ a b. square_flow w s l axis
      (point_at l axis (32 * c) (32 * u + a) (32 * v + b)) in
      let at : ℕ → ℕ → ℕ → ℤ = λ a b place. square_flow w s (n.level - 1) axis
      (fine_point n.level (low_face axis) (square_corner n (low_face axis) b a)
      (fine_corner place)) in
      let one : (a b place p q' : ℕ) → fine_corner place % 3 ≡ p → fine_corner place / 3 ≡ q'
      → at a b place ≡ q (2 * a + p) (2 * b + q') =
      λ a b place p q' ep eq.
      ap (λ k. square_flow w s k axis (fine_point n.level (low_face axis)
      (square_corner n (low_face axis) b a) (fine_corner place))) level
      ∙ ap (λ k. square_flow w s l axis (fine_point k (low_face axis)
      (square_corner n (low_face axis) b a) (fine_corner place)))
      (node_at-level (suc l) axis c u v)
      ∙ ap (square_flow w s l axis) (fine-at l axis c u v b a (fine_corner place) p q' ep eq) in
      let four : (a b : ℕ) → total 4 (at a b) ≡ (q (2 * a) (2 * b) +ℤ q (2 * a + 1) (2 * b)) +ℤ
      (q (2 * a) (2 * b + 1) +ℤ q (2 * a + 1) (2 * b + 1)) =
      λ a b. total-four (at a b) ∙ four-same (one a b 0 0 0 refl refl
      ∙ with_zeros q (2 * a) (2 * b)) (one a b 1 1 0 refl refl
      ∙ with_zero_b q (2 * a + 1) (2 * b)) (one a b 2 0 1 refl refl
      ∙ with_zero_a q (2 * a) (2 * b + 1)) (one a b 3 1 1 refl refl) in
      let quarter : (a' b' dx dy : ℕ) → 32 * u + dx ≡ 16 * a' → 32 * v + dy ≡ 16 * b'
      → square 16 (λ a b. q (dx + a) (dy + b)) ≡ face_flow w s axis
      (node_at l axis (2 * c) a' b') =
      λ a' b' dx dy ex ey.
      square-same 16 (λ a b. q (dx + a) (dy + b))
      (λ a b. square_flow w s l axis (point_at l axis (16 * (2 * c)) (16 * a' + a)
      (16 * b' + b))) (λ a b.
      λ t. square_flow w s l axis (point_at l axis (twice_sixteen c t)
      (added (32 * u) dx (16 * a') a ex t) (added (32 * v) dy (16 * b') b ey t)))
      ∙ sym (face-squares l axis (2 * c) a' b') in
      square-same 16 (λ a b. total 4 (at a b))
      (λ a b. (q (2 * a) (2 * b) +ℤ q (2 * a + 1) (2 * b)) +ℤ
      (q (2 * a) (2 * b + 1) +ℤ q (2 * a + 1) (2 * b + 1))) four
      ∙ sym (square-pairs 16 q)
      ∙ square-quarters 16 q
      ∙ four-same (quarters-zero q ∙ quarter (2 * u) (2 * v) 0 0 (omega arith) (omega arith))
      (quarters-b q ∙ quarter (2 * u + 1) (2 * v) 16 0 (omega arith) (omega arith))
      (quarters-a q ∙ quarter (2 * u) (2 * v + 1) 0 16 (omega arith) (omega arith))
      (quarter (2 * u + 1) (2 * v + 1) 16 16 (omega arith) (omega arith))
