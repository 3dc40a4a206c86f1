-- Faces cancel: over all leaves the squares of their faces come to those on the border. For the law `faces_cancel`
-- (docs/rules.md, "No crack between blocks", Faces).
--
-- One axis at a time. What a node's two faces say inside the world is told of pairs of neighbours (`across-inside`, and
-- `row` of `InnerFaces`), so a level says F for nodes of the octree less f for split nodes (`level-sum`; F is `coarse`,
-- f is `fine`). By `PairSums` the f of a level is the F of the level below (`below`). So the sum over levels is a chain
-- (`axis-inside`) of which the ends stay: nothing at the root (`at-root`) and nothing at level 0 (`at-bottom`).
use Rattle.std.proofs.Common.{◌≡◌, ℕ, zero, suc, ◌+◌, ◌-◌, ◌*◌, ◌/◌, ◌^◌, ◌<◌, ◌≤◌, Bool, true, false, not, inl, inr, refl, ap, sym, ◌∙◌, arith, add-one}
use Rattle.std.specs.Prelude.{ℤ, pos, ◌+ℤ◌, ◌-ℤ◌, ◌||◌, ◌==◌, nat_lt}
use Rattle.std.proofs.Math.Nat.{pow-zero}
use Rattle.std.proofs.lemmas.Int.{ints}
use Rattle.std.proofs.lemmas.Nat.{pow_pos}
use Rattle.std.proofs.lemmas.Bool.{cases_lt, false_from_ne_true, lt-ltb, le-ltb, ne_eqb}
use Rattle.lattice.specs.declared.point.Axis.{Axis}
use Rattle.lattice.specs.declared.point.Axis.TheVariants.{X, Y, Z}
use Rattle.lattice.specs.declared.node.Node.{Node}
use Rattle.lattice.specs.declared.key.Key.{Key}
use Rattle.lattice.specs.Node.{nodes_across, parent}
use Rattle.terrain.specs.Samples.{Field}
use Rattle.terrain.specs.Levels.{LevelMap, is_leaf, is_transitional}
use Rattle.level_laws.specs.Balance.{IsFaceBalanced}
use Rattle.level_laws.proofs.NodeLemmas.{across_below}
use Rattle.cell_laws.specs.Squares.{low_face, high_face}
use Rattle.seam_laws.specs.Flows.{total, when}
use Rattle.seam_laws.specs.Seams.{node_after, on_border, Choice, all, face_flow, fine_flow, squares_of, leaf_squares, over_leaves}
use Rattle.seam_laws.proofs.NumberSums.{from-zero, six-parts, total-same, total-difference, total-zero, total-chain}
use Rattle.seam_laws.proofs.NodePlaces.{node_at, node_at-level, node_at-index, node_at-next, on_border-inside, on_border-first, on_border-last}
use Rattle.seam_laws.proofs.LeafSums.{over_level, over_leaves-levels, over_level-axis, over_leaves-same, over_leaves-sum, over_leaves-difference}
use Rattle.seam_laws.proofs.LowFaceSquares.{fine-faces}
use Rattle.seam_laws.proofs.PairSums.{step, pairs, refine}
use Rattle.seam_laws.proofs.InnerFaces.{is_held, pick, row}

-- ---- which faces lie inside

-- the high face of a node lies inside the world where there is a node behind it
pub inside-above : (depth level : ℕ) (axis : Axis) (c u v : ℕ) → c < nodes_across depth level
    → not (on_border depth axis (node_at level axis (suc c) u v))
    ≡ nat_lt (c + 1) (nodes_across depth level)
inside-above depth level axis c u v c_in =
    let n = node_at level axis (suc c) u v in
    let at = node_at-index level axis (suc c) u v in
    let across : nodes_across depth n.level ≡ nodes_across depth level =
    ap (nodes_across depth) (node_at-level level axis (suc c) u v) in
    elim (cases_lt (c + 1) (nodes_across depth level)) [
      | inl below ↦ ap not (on_border-inside depth axis n (omega (arith, at))
          (omega (arith, at, across))) ∙ sym (lt-ltb (c + 1) (nodes_across depth level) below)
      | inr last ↦ ap not (on_border-last depth axis n (omega (arith, at, across)))
          ∙ sym (le-ltb (c + 1) (nodes_across depth level) last)
    ]

-- the low face of a node lies inside the world where there is a node before it
pub inside-below : (depth level : ℕ) (axis : Axis) (c u v : ℕ) → c < nodes_across depth level
    → not (on_border depth axis (node_at level axis c u v)) ≡ nat_lt 0 c
inside-below depth level axis c u v c_in =
    let n = node_at level axis c u v in
    let at = node_at-index level axis c u v in
    let across : nodes_across depth n.level ≡ nodes_across depth level =
    ap (nodes_across depth) (node_at-level level axis c u v) in
    elim (cases_lt 0 c) [
      | inl some ↦ ap not (on_border-inside depth axis n (omega (arith, at))
          (omega (arith, at, across))) ∙ sym (lt-ltb 0 c some)
      | inr first ↦ ap not (on_border-first depth axis n (omega (arith, at)))
          ∙ sym (le-ltb 0 c first)
    ]

-- all less what lies on the border is what lies inside
less-border : (b : Bool) (x : ℤ) → x -ℤ when b x ≡ when (not b) x
less-border true x = omega (arith, ints)
less-border false x = omega (arith, ints)

-- a sum in another order
two-parts : (a b c d : ℤ) → (a -ℤ b) -ℤ (c -ℤ d) ≡ (a -ℤ c) -ℤ (b -ℤ d)
two-parts a b c d = omega (arith, ints)

-- the parent by the indices of a node
parent-at : (level : ℕ) (axis : Axis) (c u v : ℕ)
    → parent (node_at level axis c u v) ≡ node_at (suc level) axis (c / 2) (u / 2) (v / 2)
parent-at level X c u v = rw add-one refl
parent-at level Y c u v = rw add-one refl
parent-at level Z c u v = rw add-one refl

-- a test that fails says nothing
or-right : (a b : Bool) → a ≡ false → (a || b) ≡ b
or-right a b e = rw e refl

-- a node below the root is held where the node above it is split
held-at : (depth : ℕ) (m : LevelMap) (level : ℕ) (axis : Axis) (c u v : ℕ) → suc level ≤ depth
    → is_held depth m (node_at level axis c u v)
    ≡ m (node_at (suc level) axis (c / 2) (u / 2) (v / 2))
held-at depth m level axis c u v within =
    let n = node_at level axis c u v in
    let at = node_at-level level axis c u v in
    or-right (n.level == depth) (m (parent n)) (ne_eqb n.level depth (λ e. omega arith))
    ∙ ap m (parent-at level axis c u v)

-- ---- one axis

module _ (w : Key → Key → ℕ) (s : Field) (depth : ℕ) (m : LevelMap) (axis : Axis) where
  -- what the two faces of a node across the axis say
  pub across : Choice → Node → ℤ
  across choice n = squares_of w s choice (is_transitional depth m n (high_face axis)) axis
      (node_after axis n)
      -ℤ squares_of w s choice (is_transitional depth m n (low_face axis)) axis n

  -- of a low face, all less what is on the border: its squares where it lies inside the world
  inner : (b : Bool) (n : Node) → squares_of w s all b axis n -ℤ squares_of w s (on_border depth)
      b axis n ≡ when (not (on_border depth axis n))
      (pick b (fine_flow w s axis n) (face_flow w s axis n))
  unfolding squares_of
  inner true n = less-border (on_border depth axis n) (fine_flow w s axis n)
  inner false n = less-border (on_border depth axis n) (face_flow w s axis n)

  -- f of docs/rules.md: the squares of the level below on a node's low face
  fine : ℕ → ℕ → ℕ → ℕ → ℤ
  fine level c u v = fine_flow w s axis (node_at level axis c u v)

  -- F of docs/rules.md: the squares of a node's own level on its low face
  coarse : ℕ → ℕ → ℕ → ℕ → ℤ
  coarse level c u v = face_flow w s axis (node_at level axis c u v)

  -- at a node of a level, the faces inside the world
  across-inside : (level c u v : ℕ) → c < nodes_across depth level
      → (let n = node_at level axis c u v in
      across all n -ℤ across (on_border depth) n
      ≡ when (nat_lt (c + 1) (nodes_across depth level))
      (pick (is_transitional depth m n (high_face axis)) (fine level (suc c) u v)
      (coarse level (suc c) u v))
      -ℤ when (nat_lt 0 c) (pick (is_transitional depth m n (low_face axis)) (fine level c u v)
      (coarse level c u v)))
  unfolding across fine coarse
  across-inside level c u v c_in =
      let n = node_at level axis c u v in
      let high = is_transitional depth m n (high_face axis) in
      let low = is_transitional depth m n (low_face axis) in
      let to : node_after axis n ≡ node_at level axis (suc c) u v = node_at-next level axis c u v in
      two-parts (squares_of w s all high axis (node_after axis n)) (squares_of w s all low axis n)
      (squares_of w s (on_border depth) high axis (node_after axis n))
      (squares_of w s (on_border depth) low axis n)
      ∙ (λ t. (squares_of w s all high axis (to t) -ℤ squares_of w s (on_border depth) high axis
      (to t)) -ℤ (squares_of w s all low axis n -ℤ squares_of w s (on_border depth) low axis n))
      ∙ (λ t. inner high (node_at level axis (suc c) u v) t -ℤ inner low n t)
      ∙ (λ t. when (inside-above depth level axis c u v c_in t)
      (pick high (fine_flow w s axis (node_at level axis (suc c) u v))
      (face_flow w s axis (node_at level axis (suc c) u v)))
      -ℤ when (inside-below depth level axis c u v c_in t)
      (pick low (fine_flow w s axis n) (face_flow w s axis n)))

  module _ (balanced : IsFaceBalanced depth m) where
    -- whether a node belongs to the octree: it is the root or has a split parent
    held : ℕ → ℕ → ℕ → ℕ → Bool
    held level c u v = is_held depth m (node_at level axis c u v)

    -- whether a node is split
    is_split : ℕ → ℕ → ℕ → ℕ → Bool
    is_split level c u v = m (node_at level axis c u v)

    -- the faces of a level between nodes of the octree, and the fine ones between split nodes
    between_nodes : ℕ → ℤ
    between_nodes level = pairs (nodes_across depth level) (nodes_across depth level - 1)
        (held level) (coarse level)

    -- the same of the fine squares between split nodes
    between_split : ℕ → ℤ
    between_split level = pairs (nodes_across depth level) (nodes_across depth level - 1)
        (is_split level) (fine level)

    -- what the leaves of a level say of faces inside the world, as a difference of two sums over pairs
    level-sum : (level : ℕ) → level ≤ depth
        → over_level depth level (λ n. when (is_leaf depth m n)
        (across all n -ℤ across (on_border depth) n)) ≡ between_nodes level -ℤ between_split level
    unfolding between_nodes between_split held is_split
    level-sum level within =
        let N = nodes_across depth level in
        let node : ℕ → ℕ → ℕ → Node = λ c u v. node_at level axis c u v in
        let one : Node → ℤ = λ n. when (is_leaf depth m n)
        (across all n -ℤ across (on_border depth) n) in
        let inside : ℕ → ℕ → ℕ → ℤ = λ c u v.
        when (nat_lt (c + 1) N) (pick (is_transitional depth m (node c u v) (high_face axis))
        (fine level (suc c) u v) (coarse level (suc c) u v))
        -ℤ when (nat_lt 0 c) (pick (is_transitional depth m (node c u v) (low_face axis))
        (fine level c u v) (coarse level c u v)) in
        let nodes : ℕ → ℕ → ℕ → ℤ = λ c u v. step (held level c u v) (held level (suc c) u v)
        (coarse level (suc c) u v) in
        let splits : ℕ → ℕ → ℕ → ℤ =
        λ c u v. step (is_split level c u v) (is_split level (suc c) u v)
        (fine level (suc c) u v) in
        over_level-axis depth level axis one
        ∙ total-same N (λ v. total N (λ u. total N (λ c. one (node c u v))))
        (λ v. total N (λ u. total (N - 1) (λ c. nodes c u v)) -ℤ total N
        (λ u. total (N - 1) (λ c. splits c u v))) (λ v v_in.
        total-same N (λ u. total N (λ c. one (node c u v)))
        (λ u. total (N - 1) (λ c. nodes c u v) -ℤ total (N - 1) (λ c. splits c u v)) (λ u u_in.
        total-same N (λ c. one (node c u v)) (λ c. when (is_leaf depth m (node c u v))
        (inside c u v)) (λ c c_in. ap (when (is_leaf depth m (node c u v)))
        (across-inside level c u v c_in))
        ∙ row depth m balanced level axis within u v u_in v_in (λ c. fine level c u v)
        (λ c. coarse level c u v)
        ∙ total-difference (N - 1) (λ c. nodes c u v) (λ c. splits c u v))
        ∙ total-difference N (λ u. total (N - 1) (λ c. nodes c u v))
        (λ u. total (N - 1) (λ c. splits c u v)))
        ∙ total-difference N (λ v. total N (λ u. total (N - 1) (λ c. nodes c u v)))
        (λ v. total N (λ u. total (N - 1) (λ c. splits c u v)))

    -- the root has no neighbour, and no node of level 0 is split
    at-root : between_nodes depth ≡ pos 0
    unfolding between_nodes held total
    at-root =
        let level : depth - depth ≡ 0 = omega arith in
        let one : nodes_across depth depth ≡ 1 = ap (λ k. 2 ^ k) level ∙ pow-zero 2 in
        rw one (omega (arith, ints))

    -- at level 0 nothing is split, so no pair of nodes says anything
    at-bottom : between_split 0 ≡ pos 0
    unfolding between_split is_split
    at-bottom =
        let N = nodes_across depth 0 in
        let whole : (c u v : ℕ) → is_split 0 c u v ≡ false =
        λ c u v. false_from_ne_true (m (node_at 0 axis c u v))
        (λ e. omega (
          arith,
          balanced.octree.level (node_at 0 axis c u v) e,
          node_at-level 0 axis c u v,
        )) in
        total-zero N (λ v. total N (λ u. total (N - 1)
        (λ c. step (is_split 0 c u v) (is_split 0 (suc c) u v) (fine 0 (suc c) u v))))
        (λ v v_in.
        total-zero N (λ u. total (N - 1) (λ c. step (is_split 0 c u v) (is_split 0 (suc c) u v)
        (fine 0 (suc c) u v))) (λ u u_in.
        total-zero (N - 1) (λ c. step (is_split 0 c u v) (is_split 0 (suc c) u v)
        (fine 0 (suc c) u v)) (λ c c_in.
        rw (whole c u v, whole (suc c) u v) (omega (arith, ints)))))

    -- what lies between the split nodes of a level is what lies between the nodes of the level below
    below : (level : ℕ) → suc level ≤ depth → between_split (suc level) ≡ between_nodes level
    unfolding between_nodes between_split held is_split fine coarse
    below level within =
        let N = nodes_across depth (suc level) in
        let some : 0 < N = pow_pos (depth - suc level) in
        let twice : nodes_across depth level ≡ 2 * N = across_below depth level (omega arith)
        ∙ ap (λ l. 2 * nodes_across depth l) (add-one level) in
        let less : nodes_across depth level - 1 ≡ suc (2 * (N - 1)) = omega arith in
        sym ((λ t. pairs (twice t) (less t) (held level) (coarse level))
        ∙ refine N (N - 1) (held level) (is_split (suc level)) (coarse level) (fine (suc level))
        (λ c u v. held-at depth m level axis c u v within)
        (λ c u v. fine-faces w s level axis c u v))

    -- the sums over levels as one sequence, of which each level has the difference of two neighbours
    chain : ℕ → ℤ
    chain zero = between_split 0
    chain (suc level) = between_nodes level

    -- the part for split nodes of a level is the chain's number there
    chain-at : (level : ℕ) → level ≤ depth → between_split level ≡ chain level
    unfolding chain
    chain-at zero within = refl
    chain-at (suc level) within = below level within

    -- over all levels only the ends of the chain stay, and both are 0
    axis-inside : over_leaves depth m (λ n. across all n -ℤ across (on_border depth) n) ≡ pos 0
    unfolding chain
    axis-inside =
        over_leaves-levels depth m (λ n. across all n -ℤ across (on_border depth) n)
        ∙ total-same (depth + 1) (λ level. over_level depth level
        (λ n. when (is_leaf depth m n) (across all n -ℤ across (on_border depth) n)))
        (λ level. chain (suc level) -ℤ chain level) (λ level level_in.
        level-sum level (omega arith) ∙ ap (λ x. between_nodes level -ℤ x)
        (chain-at level (omega arith)))
        ∙ total-chain (depth + 1) chain
        ∙ ends (depth + 1) (omega arith)
      where
        ends : (k : ℕ) → k ≡ suc depth → chain k -ℤ chain 0 ≡ pos 0
        ends k e = (λ t. chain (e t) -ℤ chain 0) ∙ omega (arith, ints, at-root, at-bottom)

-- ---- all three axes

-- over all leaves the squares of their faces come to those on the border
pub faces-cancel : (w : Key → Key → ℕ) (s : Field) (depth : ℕ) (m : LevelMap)
    → IsFaceBalanced depth m → over_leaves depth m (leaf_squares w s all depth m)
    ≡ over_leaves depth m (leaf_squares w s (on_border depth) depth m)
unfolding across leaf_squares
faces-cancel w s depth m balanced =
    let inside : Axis → Node → ℤ =
    λ axis n. across w s depth m axis all n -ℤ across w s depth m axis (on_border depth) n in
    from-zero (over_leaves depth m (leaf_squares w s all depth m))
    (over_leaves depth m (leaf_squares w s (on_border depth) depth m))
    (sym (over_leaves-difference depth m (leaf_squares w s all depth m)
    (leaf_squares w s (on_border depth) depth m))
    ∙ over_leaves-same depth m (λ n. leaf_squares w s all depth m n -ℤ leaf_squares w s
    (on_border depth) depth m n) (λ n. inside X n +ℤ (inside Y n +ℤ inside Z n)) (λ n.
    six-parts (across w s depth m X all n) (across w s depth m Y all n) (across w s depth m Z all n)
    (across w s depth m X (on_border depth) n) (across w s depth m Y (on_border depth) n)
    (across w s depth m Z (on_border depth) n))
    ∙ over_leaves-sum depth m (inside X) (λ n. inside Y n +ℤ inside Z n)
    ∙ ap (λ x. over_leaves depth m (inside X) +ℤ x) (over_leaves-sum depth m (inside Y) (inside Z))
    ∙ (λ t. axis-inside w s depth m X balanced t +ℤ
    (axis-inside w s depth m Y balanced t +ℤ axis-inside w s depth m Z balanced t)))
