-- Sides: round each side of the lattice of a level the rows of lateral faces cancel, but for the border. For the law
-- `sides_cancel` (docs/rules.md, "No crack between blocks", Sides).
--
-- Four nodes lie round a side. They can be paired across the one axis or across the other; `core` is what the two pairs
-- say of the side, and it is the same number for both ways to pair (`core-turned`: the steps round the circle add up to
-- 0). So: a leaf's transitional faces across an axis as a sum over pairs (`sides-inside`, then `row` of `InnerFaces`),
-- the sum over pairs as one over sides (`to-sides`, `sides-level`), both ways to pair (`turned-at`, `pair-inside`), and
-- what a leaf's rows are in terms of these (`leaf-inside`): three differences, one for the sides along each axis.
use Rattle.std.proofs.Common.{◌≡◌, ℕ, zero, suc, ◌+◌, ◌-◌, ◌*◌, ◌^◌, ◌<◌, ◌≤◌, Bool, true, false, not, inl, inr, refl, ap, sym, ◌∙◌, arith, add-one}
use Rattle.std.specs.Prelude.{ℤ, pos, ◌+ℤ◌, ◌-ℤ◌, neg_ℤ, nat_lt}
use Rattle.std.proofs.lemmas.Int.{ints}
use Rattle.std.proofs.lemmas.Nat.{pow_pos}
use Rattle.std.proofs.lemmas.Bool.{cases_lt, lt-ltb, le-ltb, ltb-false}
use Rattle.lattice.specs.declared.point.Axis.{Axis}
use Rattle.lattice.specs.declared.point.Axis.TheVariants.{X, Y, Z}
use Rattle.lattice.specs.declared.node.Node.{Node}
use Rattle.lattice.specs.declared.key.Key.{Key}
use Rattle.lattice.specs.Node.{nodes_across, low_corner}
use Rattle.lattice.specs.Point.{moved}
use Rattle.terrain.specs.Samples.{Field}
use Rattle.lattice.specs.Face.{FaceAxis, lower, higher}
use Rattle.terrain.specs.Cells.{is_straight}
use Rattle.terrain.specs.Levels.{LevelMap, is_leaf, is_transitional}
use Rattle.cell_laws.specs.Squares.{low_face, high_face, other, segment_curves}
use Rattle.level_laws.specs.Balance.{IsFaceBalanced}
use Rattle.seam_laws.specs.Flows.{flow, total, when, turned}
use Rattle.seam_laws.specs.Seams.{index, node_after, on_border, axis_on, Choice, all, segment_flow, row_flow, rows_round, rows_of, leaf_rows, over_leaves}
use Rattle.seam_laws.proofs.NumberSums.{from-zero, six-parts, total-same, total-swap, total-ends_at, total-negative}
use Rattle.seam_laws.proofs.NodePlaces.{node_at, node_at-level, node_at-next, transitional-last, transitional-first, on_border-inside, on_border-first, on_border-last}
use Rattle.seam_laws.proofs.LeafSums.{over_level, over_leaves-levels, over_level-axis, over_leaves-same, over_leaves-sum, over_leaves-difference}
use Rattle.seam_laws.proofs.PairSums.{step}
use Rattle.seam_laws.proofs.InnerFaces.{is_held, pick, row}

-- ---- nodes by their places on an axis, on the one of the two others that is meant, and on the last one

-- the node at a across an axis, at b along the axis that is meant, and at k along the third
abbrev grid : ℕ → Axis → FaceAxis → ℕ → ℕ → ℕ → Node
grid level axis lower a b k = node_at level axis a b k
grid level axis higher a b k = node_at level axis a k b

-- its level
grid-level : (level : ℕ) (axis : Axis) (along : FaceAxis) (a b k : ℕ)
    → (grid level axis along a b k).level ≡ level
grid-level level axis lower a b k = node_at-level level axis a b k
grid-level level axis higher a b k = node_at-level level axis a k b

-- the next node across the axis
grid-next : (level : ℕ) (axis : Axis) (along : FaceAxis) (a b k : ℕ)
    → node_after axis (grid level axis along a b k) ≡ grid level axis along (suc a) b k
grid-next level axis lower a b k = node_at-next level axis a b k
grid-next level axis higher a b k = node_at-next level axis a k b

-- the next node along the axis that is meant
grid-along : (level : ℕ) (axis : Axis) (along : FaceAxis) (a b k : ℕ)
    → node_after (axis_on axis along) (grid level axis along a b k)
    ≡ grid level axis along a (suc b) k
grid-along level X lower a b k = rw add-one refl
grid-along level X higher a b k = rw add-one refl
grid-along level Y lower a b k = rw add-one refl
grid-along level Y higher a b k = rw add-one refl
grid-along level Z lower a b k = rw add-one refl
grid-along level Z higher a b k = rw add-one refl

-- its index along the axis that is meant
grid-index : (level : ℕ) (axis : Axis) (along : FaceAxis) (a b k : ℕ)
    → index (axis_on axis along) (grid level axis along a b k) ≡ b
grid-index level X lower a b k = refl
grid-index level X higher a b k = refl
grid-index level Y lower a b k = refl
grid-index level Y higher a b k = refl
grid-index level Z lower a b k = refl
grid-index level Z higher a b k = refl

-- whether a side lies inside the world, by its place along the axis that is meant
inside-above : (depth level : ℕ) (axis : Axis) (along : FaceAxis) (a b k : ℕ)
    → b < nodes_across depth level
    → not (on_border depth (axis_on axis along) (grid level axis along a (suc b) k))
    ≡ nat_lt (b + 1) (nodes_across depth level)
inside-above depth level axis along a b k b_in =
    let n = grid level axis along a (suc b) k in
    let at = grid-index level axis along a (suc b) k in
    let across : nodes_across depth n.level ≡ nodes_across depth level =
    ap (nodes_across depth) (grid-level level axis along a (suc b) k) in
    elim (cases_lt (b + 1) (nodes_across depth level)) [
      | inl below ↦ ap not (on_border-inside depth (axis_on axis along) n (omega (arith, at))
          (omega (arith, at, across))) ∙ sym (lt-ltb (b + 1) (nodes_across depth level) below)
      | inr last ↦ ap not (on_border-last depth (axis_on axis along) n (omega (arith, at, across)))
          ∙ sym (le-ltb (b + 1) (nodes_across depth level) last)
    ]

-- the same of the side at a node's low end
inside-below : (depth level : ℕ) (axis : Axis) (along : FaceAxis) (a b k : ℕ)
    → b < nodes_across depth level
    → not (on_border depth (axis_on axis along) (grid level axis along a b k)) ≡ nat_lt 0 b
inside-below depth level axis along a b k b_in =
    let n = grid level axis along a b k in
    let at = grid-index level axis along a b k in
    let across : nodes_across depth n.level ≡ nodes_across depth level =
    ap (nodes_across depth) (grid-level level axis along a b k) in
    elim (cases_lt 0 b) [
      | inl some ↦ ap not (on_border-inside depth (axis_on axis along) n (omega (arith, at))
          (omega (arith, at, across))) ∙ sym (lt-ltb 0 b some)
      | inr first ↦ ap not (on_border-first depth (axis_on axis along) n (omega (arith, at)))
          ∙ sym (le-ltb 0 b first)
    ]

-- a face that isn't between two nodes of the world isn't transitional
covered : (b t : Bool) (x : ℤ) → (b ≡ false → t ≡ false) → when t x ≡ when b (pick t x (pos 0))
covered true true x h = refl
covered true false x h = refl
covered false t x h = rw (h refl) refl

-- the last node has no transitional high face
grid-last : (depth : ℕ) (m : LevelMap) (level : ℕ) (axis : Axis) (along : FaceAxis) (a b k : ℕ)
    → a < nodes_across depth level → nat_lt (a + 1) (nodes_across depth level) ≡ false
    → is_transitional depth m (grid level axis along a b k) (high_face axis) ≡ false
grid-last depth m level axis lower a b k a_in e =
    transitional-last depth m level axis a b k
    (omega (arith, ltb-false (a + 1) (nodes_across depth level) e))
grid-last depth m level axis higher a b k a_in e =
    transitional-last depth m level axis a k b
    (omega (arith, ltb-false (a + 1) (nodes_across depth level) e))

-- the first node has no transitional low face
grid-first : (depth : ℕ) (m : LevelMap) (level : ℕ) (axis : Axis) (along : FaceAxis) (a b k : ℕ)
    → nat_lt 0 a ≡ false → is_transitional depth m (grid level axis along a b k) (low_face axis)
    ≡ false
grid-first depth m level axis along (suc a) b k e = absurd (omega (arith, ltb-false 0 (suc a) e))
grid-first depth m level axis lower zero b k e = transitional-first depth m level axis b k
grid-first depth m level axis higher zero b k e = transitional-first depth m level axis k b

-- ---- sums over a grid

-- by the places on an axis and on the one that is meant
over_grid : (depth level : ℕ) (axis : Axis) (along : FaceAxis) (f : Node → ℤ)
    → (let N = nodes_across depth level in
    over_level depth level f ≡ total N
    (λ k. total N (λ b. total N (λ a. f (grid level axis along a b k)))))
over_grid depth level axis lower f = over_level-axis depth level axis f
over_grid depth level axis higher f =
    let N = nodes_across depth level in
    over_level-axis depth level axis f
    ∙ total-swap N N (λ b k. total N (λ a. f (node_at level axis a k b)))

-- what four nodes say of the side between them, by the axis across which they are first paired
abbrev core : (ℕ → ℕ → Bool) → (ℕ → ℕ → ℤ) → ℕ → ℕ → ℤ
core split x a b = step (split a (suc b)) (split (suc a) (suc b)) (x (suc a) (suc b))
    -ℤ step (split a b) (split (suc a) b) (x (suc a) (suc b))

-- what a pair says of a difference
step-difference : (s s' : Bool) (x y : ℤ) → step s s' (x -ℤ y) ≡ step s s' x -ℤ step s s' y
step-difference true true x y = omega (arith, ints)
step-difference true false x y = omega (arith, ints)
step-difference false true x y = omega (arith, ints)
step-difference false false x y = omega (arith, ints)

-- of nothing a pair says nothing
step-nothing : (s s' : Bool) → step s s' (pos 0) ≡ pos 0
step-nothing true true = refl
step-nothing true false = refl
step-nothing false true = refl
step-nothing false false = refl

-- a test of the number can stand before the step
step-when : (s s' t : Bool) (x : ℤ) → step s s' (when t x) ≡ when t (step s s' x)
step-when s s' true x = refl
step-when s s' false x = step-nothing s s'

-- and before a sign
less-when : (t : Bool) (x : ℤ) → when t (pos 0 -ℤ x) ≡ pos 0 -ℤ when t x
less-when true x = refl
less-when false x = refl

-- what a pair says of the two ends of a face, each end by itself
less-step : (s s' t t' : Bool) (x y : ℤ) → pos 0 -ℤ step s s' (when t x -ℤ when t' y)
    ≡ when t (pos 0 -ℤ step s s' x) -ℤ when t' (pos 0 -ℤ step s s' y)
less-step s s' t t' x y =
    let apart = step-difference s s' (when t x) (when t' y) in
    let first = step-when s s' t x in
    let second = step-when s s' t' y in
    let first' = less-when t (step s s' x) in
    let second' = less-when t' (step s s' y) in
    omega (arith, ints)

-- the sum over a grid of what pairs say comes to the sum over the sides between four nodes
to-sides : (n k : ℕ) (split : ℕ → ℕ → Bool) (x : ℕ → ℕ → ℤ) → n ≡ suc k
    → total n (λ b. total k (λ a. pos 0 -ℤ step (split a b) (split (suc a) b)
    (when (nat_lt (b + 1) n) (x (suc a) (suc b)) -ℤ when (nat_lt 0 b) (x (suc a) b))))
    ≡ total k (λ a. total k (λ b. core split x a b))
to-sides n k split x e =
    let f : ℕ → ℕ → ℤ → ℤ = λ a b y. pos 0 -ℤ step (split a b) (split (suc a) b) y in
    total-swap n k (λ b a. f a b (when (nat_lt (b + 1) n) (x (suc a) (suc b)) -ℤ when (nat_lt 0 b)
    (x (suc a) b)))
    ∙ total-same k (λ a. total n (λ b. f a b (when (nat_lt (b + 1) n) (x (suc a) (suc b))
    -ℤ when (nat_lt 0 b) (x (suc a) b)))) (λ a. total k (λ b. core split x a b)) (λ a a_in.
    total-same n (λ b. f a b (when (nat_lt (b + 1) n) (x (suc a) (suc b)) -ℤ when (nat_lt 0 b)
    (x (suc a) b))) (λ b. when (nat_lt (b + 1) n) (f a b (x (suc a) (suc b)))
    -ℤ when (nat_lt 0 b) (f a b (x (suc a) b))) (λ b b_in.
    less-step (split a b) (split (suc a) b) (nat_lt (b + 1) n) (nat_lt 0 b) (x (suc a) (suc b))
    (x (suc a) b))
    ∙ total-ends_at n k (λ b. f a b (x (suc a) (suc b))) (λ b. f a b (x (suc a) b)) e
    ∙ total-same k (λ b. f a b (x (suc a) (suc b)) -ℤ f a (suc b) (x (suc a) (suc b)))
    (λ b. core split x a b) (λ b b_in.
    apart (step (split a b) (split (suc a) b) (x (suc a) (suc b)))
    (step (split a (suc b)) (split (suc a) (suc b)) (x (suc a) (suc b)))))
  where
    apart : (x y : ℤ) → (pos 0 -ℤ x) -ℤ (pos 0 -ℤ y) ≡ y -ℤ x
    apart x y = omega (arith, ints)

-- paired across the other axis, four nodes say the same
core-turned : (split : ℕ → ℕ → Bool) (x : ℕ → ℕ → ℤ) (a b : ℕ)
    → core split x a b ≡ core (λ c d. split d c) (λ c d. x d c) b a
core-turned split x a b = omega (arith, ints)

-- a sum of numbers turned round is the sum, turned round
total-turned : (b : Bool) (n : ℕ) (f : ℕ → ℤ) → total n (λ i. turned b (f i)) ≡ turned b (total n f)
total-turned true n f = refl
total-turned false n f = total-negative n f

-- what the nodes of a row say of their faces inside the world is what their pairs say
row-at : (depth : ℕ) (m : LevelMap) → IsFaceBalanced depth m → (level : ℕ) → level ≤ depth
    → (axis : Axis) (along : FaceAxis) (k b : ℕ) → k < nodes_across depth level
    → b < nodes_across depth level → (fine coarse : ℕ → ℤ)
    → (let N = nodes_across depth level in
    total N (λ a. when (is_leaf depth m (grid level axis along a b k))
    (when (nat_lt (a + 1) N)
    (pick (is_transitional depth m (grid level axis along a b k) (high_face axis))
    (fine (suc a)) (coarse (suc a))) -ℤ when (nat_lt 0 a)
    (pick (is_transitional depth m (grid level axis along a b k) (low_face axis)) (fine a)
    (coarse a))))
    ≡ total (N - 1) (λ a. step (is_held depth m (grid level axis along a b k))
    (is_held depth m (grid level axis along (suc a) b k)) (coarse (suc a)) -ℤ step
    (m (grid level axis along a b k)) (m (grid level axis along (suc a) b k)) (fine (suc a))))
row-at depth m balanced level within axis lower k b k_in b_in fine coarse =
    row depth m balanced level axis within b k b_in k_in fine coarse
row-at depth m balanced level within axis higher k b k_in b_in fine coarse =
    row depth m balanced level axis within k b k_in b_in fine coarse

-- ---- rows, their turns and the border

-- a row's flow less its part on the border is its part inside, in the row's turn
inside-turned : (b c : Bool) (x : ℤ) → turned b x -ℤ when c (turned b x) ≡ turned b (when (not c) x)
inside-turned true true x = omega (arith, ints)
inside-turned true false x = omega (arith, ints)
inside-turned false true x = omega (arith, ints)
inside-turned false false x = omega (arith, ints)

-- a sum in another order
parts-apart : (a b c d a' b' c' d' : ℤ) → ((a -ℤ b) +ℤ (c -ℤ d)) -ℤ ((a' -ℤ b') +ℤ (c' -ℤ d'))
    ≡ ((a -ℤ a') -ℤ (b -ℤ b')) +ℤ ((c -ℤ c') -ℤ (d -ℤ d'))
parts-apart a b c d a' b' c' d' = omega (arith, ints)

-- the four rows round a face, by the two axes along it, under one turn
turned-together : (t : Bool) (a b c d : ℤ)
    → (turned t a -ℤ turned t b) +ℤ (turned t c -ℤ turned t d) ≡ turned t ((c -ℤ d) -ℤ (b -ℤ a))
turned-together true a b c d = omega (arith, ints)
turned-together false a b c d = omega (arith, ints)

-- a difference of two faces, by high and low
when-apart : (high low : Bool) (a b a' b' : ℤ)
    → (when high a -ℤ when low b) -ℤ (when high a' -ℤ when low b') ≡ when high (a -ℤ a') -ℤ when low
    (b -ℤ b')
when-apart true true a b a' b' = omega (arith, ints)
when-apart true false a b a' b' = omega (arith, ints)
when-apart false true a b a' b' = omega (arith, ints)
when-apart false false a b a' b' = refl

-- the same of two such differences under one turn
when-turned : (t high low : Bool) (a b c d : ℤ)
    → when high (turned t (a -ℤ b)) -ℤ when low (turned t (c -ℤ d))
    ≡ turned t ((when high a -ℤ when low c) -ℤ (when high b -ℤ when low d))
when-turned true true true a b c d = omega (arith, ints)
when-turned true true false a b c d = omega (arith, ints)
when-turned true false true a b c d = omega (arith, ints)
when-turned true false false a b c d = refl
when-turned false true true a b c d = omega (arith, ints)
when-turned false true false a b c d = omega (arith, ints)
when-turned false false true a b c d = omega (arith, ints)
when-turned false false false a b c d = refl

-- a sum in another order: of X, Y and Z the sides by the lower of two axes (a, b, c) and by the higher one (a', b', c')
in-pairs : (a a' b b' c c' : ℤ) → (a -ℤ a') +ℤ (neg_ℤ (b -ℤ b') +ℤ (c -ℤ c'))
    ≡ (a -ℤ b) +ℤ ((b' -ℤ c') +ℤ (c -ℤ a'))
in-pairs a a' b b' c c' = omega (arith, ints)

module _ (w : Key → Key → ℕ) (s : Field) (depth : ℕ) (m : LevelMap) where
  -- the row of 16 lateral faces from a node's low corner along an axis, in the turn of the coarse edge
  row_along : Axis → Node → ℤ
  row_along axis n =
      total 16 (λ t. flow w (segment_curves s n.level axis
      (moved axis (2 ^ n.level * t) (low_corner n))))

  module _ (axis : Axis) (along : FaceAxis) where
    -- the side at a node's low end, where it lies inside the world
    inner_side : Node → ℤ
    inner_side n = when (not (on_border depth (axis_on axis along) n))
        (row_along (axis_on axis (other along)) n)

    -- the sides at the two ends of a node's low face
    two_sides : Node → ℤ
    two_sides n = inner_side (node_after (axis_on axis along) n) -ℤ inner_side n

    -- the same for a node's transitional faces across the axis
    sides_across : Node → ℤ
    sides_across n =
        when (is_transitional depth m n (high_face axis)) (two_sides (node_after axis n))
        -ℤ when (is_transitional depth m n (low_face axis)) (two_sides n)

    module _ (level : ℕ) where
      -- whether the node at (a, b) of a plane k is split
      split_on : ℕ → ℕ → ℕ → Bool
      split_on k a b = m (grid level axis along a b k)

      -- the row at the low ends of that node, along the axis across the plane
      row_on : ℕ → ℕ → ℕ → ℤ
      row_on k a b = row_along (axis_on axis (other along)) (grid level axis along a b k)

      -- the sides at the two ends of a node's low face, where they lie inside the world
      two_sides-rows : (k a b : ℕ) → b < nodes_across depth level
          → two_sides (grid level axis along a b k) ≡ when
          (nat_lt (b + 1) (nodes_across depth level)) (row_on k a (suc b)) -ℤ when (nat_lt 0 b)
          (row_on k a b)
      unfolding two_sides inner_side row_on
      two_sides-rows k a b b_in =
          (λ t. inner_side (grid-along level axis along a b k t)
          -ℤ inner_side (grid level axis along a b k))
          ∙ (λ t. when (inside-above depth level axis along a b k b_in t) (row_on k a (suc b))
          -ℤ when (inside-below depth level axis along a b k b_in t) (row_on k a b))

      -- a node's transitional faces are told apart from others only between two nodes of the world
      sides-inside : (k a b : ℕ) → a < nodes_across depth level
          → (let n = grid level axis along a b k in
          sides_across n
          ≡ when (nat_lt (a + 1) (nodes_across depth level))
          (pick (is_transitional depth m n (high_face axis))
          (two_sides (grid level axis along (suc a) b k)) (pos 0))
          -ℤ when (nat_lt 0 a) (pick (is_transitional depth m n (low_face axis)) (two_sides n)
          (pos 0)))
      unfolding sides_across
      sides-inside k a b a_in =
          let n = grid level axis along a b k in
          let N = nodes_across depth level in
          let high = is_transitional depth m n (high_face axis) in
          let low = is_transitional depth m n (low_face axis) in
          (λ t. when high (two_sides (grid-next level axis along a b k t)) -ℤ when low
          (two_sides n))
          ∙ (λ t. covered (nat_lt (a + 1) N) high (two_sides (grid level axis along (suc a) b k))
          (grid-last depth m level axis along a b k a_in) t -ℤ covered (nat_lt 0 a) low
          (two_sides n) (grid-first depth m level axis along a b k) t)

      -- what the leaves of a level say comes to the sum of `core` over the sides inside the world
      sides-level : IsFaceBalanced depth m → level ≤ depth
          → over_level depth level (λ n. when (is_leaf depth m n) (sides_across n))
          ≡ (let k = nodes_across depth level - 1 in
          total (nodes_across depth level)
          (λ c. total k (λ a. total k (λ b. core (split_on c) (row_on c) a b))))
      unfolding split_on
      sides-level balanced within =
          let N = nodes_across depth level in
          let node : ℕ → ℕ → ℕ → Node = λ k b a. grid level axis along a b k in
          let one : Node → ℤ = λ n. when (is_leaf depth m n) (sides_across n) in
          let some : N ≡ suc (N - 1) = omega (arith, pow_pos (depth - level)) in
          let inside : ℕ → ℕ → ℕ → ℤ = λ k b a.
          when (nat_lt (a + 1) N) (pick (is_transitional depth m (node k b a) (high_face axis))
          (two_sides (node k b (suc a))) (pos 0))
          -ℤ when (nat_lt 0 a) (pick (is_transitional depth m (node k b a) (low_face axis))
          (two_sides (node k b a)) (pos 0)) in
          let paired : ℕ → ℕ → ℕ → ℤ = λ k b a.
          pos 0 -ℤ step (split_on k a b) (split_on k (suc a) b)
          (when (nat_lt (b + 1) N) (row_on k (suc a) (suc b)) -ℤ when (nat_lt 0 b)
          (row_on k (suc a) b)) in
          over_grid depth level axis along one
          ∙ total-same N (λ k. total N (λ b. total N (λ a. one (node k b a))))
          (λ k. total (N - 1) (λ a. total (N - 1) (λ b. core (split_on k) (row_on k) a b)))
          (λ k k_in.
          total-same N (λ b. total N (λ a. one (node k b a)))
          (λ b. total (N - 1) (λ a. paired k b a)) (λ b b_in.
          total-same N (λ a. one (node k b a))
          (λ a. when (is_leaf depth m (node k b a)) (inside k b a))
          (λ a a_in. ap (when (is_leaf depth m (node k b a))) (sides-inside k a b a_in))
          ∙ row-at depth m balanced level within axis along k b k_in b_in
          (λ a. two_sides (node k b a)) (λ a. pos 0)
          ∙ total-same (N - 1) (λ a. step (is_held depth m (node k b a))
          (is_held depth m (node k b (suc a))) (pos 0) -ℤ step (split_on k a b)
          (split_on k (suc a) b) (two_sides (node k b (suc a)))) (λ a. paired k b a) (λ a a_in.
          λ t. step-nothing (is_held depth m (node k b a)) (is_held depth m (node k b (suc a)))
          t -ℤ step (split_on k a b) (split_on k (suc a) b) (two_sides-rows k (suc a) b b_in t)))
          ∙ to-sides N (N - 1) (split_on k) (row_on k) some)

  -- ---- the two ways to pair four nodes

  -- what the leaves of a level say, for one axis across the faces and one of the two along them
  level-of : Axis → FaceAxis → ℕ → ℤ
  level-of axis along level = over_level depth level
      (λ n. when (is_leaf depth m n) (sides_across axis along n))

  module _ (balanced : IsFaceBalanced depth m) where
    -- paired across one axis or across the other, the sides of a level along a third axis come to the same
    turned-at : (axis axis' : Axis) (along along' : FaceAxis) (level : ℕ) → level ≤ depth
        → ((a b k : ℕ) → grid level axis along a b k ≡ grid level axis' along' b a k)
        → axis_on axis (other along) ≡ axis_on axis' (other along')
        → level-of axis along level ≡ level-of axis' along' level
    unfolding level-of split_on row_on
    turned-at axis axis' along along' level within same third =
        let N = nodes_across depth level in
        let one : ℕ → ℕ → ℕ → ℤ = λ k a b. core (split_on axis along level k)
        (row_on axis along level k) a b in
        let two : ℕ → ℕ → ℕ → ℤ = λ k b a. core (split_on axis' along' level k)
        (row_on axis' along' level k) b a in
        sides-level axis along level balanced within
        ∙ total-same N (λ k. total (N - 1) (λ a. total (N - 1) (λ b. one k a b)))
        (λ k. total (N - 1) (λ b. total (N - 1) (λ a. two k b a))) (λ k k_in.
        total-swap (N - 1) (N - 1) (λ a b. one k a b)
        ∙ total-same (N - 1) (λ b. total (N - 1) (λ a. one k a b))
        (λ b. total (N - 1) (λ a. two k b a)) (λ b b_in.
        total-same (N - 1) (λ a. one k a b) (λ a. two k b a) (λ a a_in.
        core-turned (split_on axis along level k) (row_on axis along level k) a b
        ∙ (λ t. core (λ c d. m (same d c k t)) (λ c d. row_along (third t) (same d c k t)) b a))))
        ∙ sym (sides-level axis' along' level balanced within)

    -- over all levels the two ways to pair cancel
    pair-inside : (axis axis' : Axis) (along along' : FaceAxis)
        → ((level a b k : ℕ) → grid level axis along a b k ≡ grid level axis' along' b a k)
        → axis_on axis (other along) ≡ axis_on axis' (other along')
        → over_leaves depth m (λ n. sides_across axis along n -ℤ sides_across axis' along' n)
        ≡ pos 0
    unfolding level-of
    pair-inside axis axis' along along' same third =
        let one = sides_across axis along in
        let two = sides_across axis' along' in
        over_leaves-difference depth m one two
        ∙ (λ t. over_leaves-levels depth m one t -ℤ over_leaves-levels depth m two t)
        ∙ ap (λ x. x -ℤ total (depth + 1) (level-of axis' along'))
        (total-same (depth + 1) (level-of axis along) (level-of axis' along')
        (λ level level_in. turned-at axis axis' along along' level (omega arith) (same level)
        third))
        ∙ nothing (total (depth + 1) (level-of axis' along'))
      where
        nothing : (x : ℤ) → x -ℤ x ≡ pos 0
        nothing x = omega (arith, ints)

  -- ---- the rows of a leaf

  -- a row's flow is that of the row in the turn of its coarse edges, turned round where the high face is
  row-turned : (axis : Axis) (along : FaceAxis) (n : Node)
      → row_flow w s axis along n ≡ turned (is_straight (high_face axis))
      (row_along (axis_on axis along) n)
  unfolding row_flow segment_flow row_along
  row-turned axis along n = total-turned (is_straight (high_face axis)) 16
      (λ t. flow w (segment_curves s n.level (axis_on axis along)
      (moved (axis_on axis along) (2 ^ n.level * t) (low_corner n))))

  -- a row on a side inside the world
  row-inside : (axis : Axis) (along : FaceAxis) (across : Axis) (n : Node)
      → row_flow w s axis along n -ℤ when (on_border depth across n) (row_flow w s axis along n)
      ≡ turned (is_straight (high_face axis))
      (when (not (on_border depth across n)) (row_along (axis_on axis along) n))
  row-inside axis along across n =
      (λ t. row-turned axis along n t -ℤ when (on_border depth across n)
      (row-turned axis along n t))
      ∙ inside-turned (is_straight (high_face axis)) (on_border depth across n)
      (row_along (axis_on axis along) n)

  -- the four rows round a face, inside the world: two for each axis along it
  round-inside : (axis : Axis) (n : Node) → rows_round w s all axis n -ℤ rows_round w s
      (on_border depth) axis n ≡ turned (is_straight (high_face axis))
      (two_sides axis lower n -ℤ two_sides axis higher n)
  unfolding rows_round two_sides inner_side
  round-inside axis n =
      let u = axis_on axis lower in
      let v = axis_on axis higher in
      let rest : FaceAxis → Axis → Node → ℤ =
      λ along across n. when (on_border depth across n) (row_flow w s axis along n) in
      parts-apart (row_flow w s axis lower n) (row_flow w s axis lower (node_after v n))
      (row_flow w s axis higher (node_after u n)) (row_flow w s axis higher n) (rest lower v n)
      (rest lower v (node_after v n)) (rest higher u (node_after u n)) (rest higher u n)
      ∙ (λ t. (row-inside axis lower v n t -ℤ row-inside axis lower v (node_after v n) t) +ℤ
      (row-inside axis higher u (node_after u n) t -ℤ row-inside axis higher u n t))
      ∙ turned-together (is_straight (high_face axis))
      (when (not (on_border depth v n)) (row_along u n))
      (when (not (on_border depth v (node_after v n))) (row_along u (node_after v n)))
      (when (not (on_border depth u (node_after u n))) (row_along v (node_after u n)))
      (when (not (on_border depth u n)) (row_along v n))

  -- the rows round the two faces of a node across an axis
  rows_across : Choice → Axis → Node → ℤ
  rows_across choice axis n = rows_of w s choice (is_transitional depth m n (high_face axis)) axis
      (node_after axis n) -ℤ rows_of w s choice (is_transitional depth m n (low_face axis)) axis n

  -- the same inside the world
  across-inside : (axis : Axis) (n : Node) → rows_across all axis n -ℤ rows_across (on_border depth)
      axis n ≡ turned (is_straight (high_face axis))
      (sides_across axis lower n -ℤ sides_across axis higher n)
  unfolding rows_across rows_of sides_across
  across-inside axis n =
      let high = is_transitional depth m n (high_face axis) in
      let low = is_transitional depth m n (low_face axis) in
      when-apart high low (rows_round w s all axis (node_after axis n)) (rows_round w s all axis n)
      (rows_round w s (on_border depth) axis (node_after axis n))
      (rows_round w s (on_border depth) axis n)
      ∙ (λ t. when high (round-inside axis (node_after axis n) t)
      -ℤ when low (round-inside axis n t))
      ∙ when-turned (is_straight (high_face axis)) high low
      (two_sides axis lower (node_after axis n))
      (two_sides axis higher (node_after axis n)) (two_sides axis lower n) (two_sides axis higher n)

  -- a leaf's rows inside the world: for each third axis, one way to pair less the other
  leaf-inside : (n : Node)
      → leaf_rows w s all depth m n -ℤ leaf_rows w s (on_border depth) depth m n
      ≡ (sides_across X lower n -ℤ sides_across Y lower n) +ℤ
      ((sides_across Y higher n -ℤ sides_across Z higher n) +ℤ
      (sides_across Z lower n -ℤ sides_across X higher n))
  unfolding leaf_rows rows_across
  leaf-inside n =
      six-parts (rows_across all X n) (rows_across all Y n) (rows_across all Z n)
      (rows_across (on_border depth) X n) (rows_across (on_border depth) Y n)
      (rows_across (on_border depth) Z n)
      ∙ (λ t. across-inside X n t +ℤ (across-inside Y n t +ℤ across-inside Z n t))
      ∙ in-pairs (sides_across X lower n) (sides_across X higher n) (sides_across Y lower n)
      (sides_across Y higher n) (sides_across Z lower n) (sides_across Z higher n)

-- over all leaves the rows of lateral faces come to those on the border
pub sides-cancel : (w : Key → Key → ℕ) (s : Field) (depth : ℕ) (m : LevelMap)
    → IsFaceBalanced depth m → over_leaves depth m (leaf_rows w s all depth m)
    ≡ over_leaves depth m (leaf_rows w s (on_border depth) depth m)
sides-cancel w s depth m balanced =
    let side : Axis → FaceAxis → Node → ℤ = sides_across w s depth m in
    let xy : Node → ℤ = λ n. side X lower n -ℤ side Y lower n in
    let yz : Node → ℤ = λ n. side Y higher n -ℤ side Z higher n in
    let zx : Node → ℤ = λ n. side Z lower n -ℤ side X higher n in
    from-zero (over_leaves depth m (leaf_rows w s all depth m))
    (over_leaves depth m (leaf_rows w s (on_border depth) depth m))
    (sym (over_leaves-difference depth m (leaf_rows w s all depth m)
    (leaf_rows w s (on_border depth) depth m))
    ∙ over_leaves-same depth m (λ n. leaf_rows w s all depth m n -ℤ leaf_rows w s (on_border depth)
    depth m n) (λ n. xy n +ℤ (yz n +ℤ zx n)) (leaf-inside w s depth m)
    ∙ over_leaves-sum depth m xy (λ n. yz n +ℤ zx n)
    ∙ ap (λ x. over_leaves depth m xy +ℤ x) (over_leaves-sum depth m yz zx)
    ∙ (λ t. pair-inside w s depth m balanced X Y lower lower (λ level a b k. refl) refl t
    +ℤ (pair-inside w s depth m balanced Y Z higher higher (λ level a b k. refl) refl t
    +ℤ pair-inside w s depth m balanced Z X lower higher (λ level a b k. refl) refl t)))
