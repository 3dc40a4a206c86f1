-- What is left of a leaf's faces without those on the border, row by row: of two neighbours in a balanced level map it
-- is what their common face says.
--
-- For `FaceSums` and `LateralRows`, which need `row`, and `SideLemmas`. The seven rows of the table in docs/rules.md
-- ("No crack between blocks", Faces) are the cases of `between`: each of two neighbours is split or not (`s`, `s'`) and
-- belongs to the octree or doesn't (`t`, `t'`); balance leaves out those in which a split node is beside one within a
-- leaf (`held-after`, `held-before`). `row` adds up pairs along a row of nodes, from the two ends that each node has
-- (`total-ends_at`).
use Rattle.std.proofs.Common.{◌≡◌, ℕ, suc, ◌+◌, ◌-◌, ◌<◌, ◌≤◌, Bool, true, false, not, ◌⊎◌, inl, inr, refl, sym, ◌∙◌, arith}
use Rattle.std.specs.Prelude.{ℤ, pos, ◌-ℤ◌, ◌&&◌, ◌||◌, ◌==◌, nat_lt}
use Rattle.std.proofs.lemmas.Int.{ints}
use Rattle.std.proofs.lemmas.Nat.{pow_pos}
use Rattle.std.proofs.lemmas.Bool.{false≢true, eq-eqb}
use Rattle.lattice.specs.declared.point.Axis.{Axis}
use Rattle.lattice.specs.declared.node.Node.{Node}
use Rattle.lattice.specs.Node.{nodes_across, IsNode, is_node, parent}
use Rattle.lattice.proofs.TestLemmas.{node_test}
use Rattle.terrain.specs.Levels.{LevelMap, is_leaf, is_transitional}
use Rattle.level_laws.specs.Balance.{IsFaceBalanced}
use Rattle.level_laws.proofs.ShareLemmas.{ShareFace-turned}
use Rattle.cell_laws.specs.Squares.{low_face, high_face}
use Rattle.seam_laws.specs.Flows.{total, when}
use Rattle.seam_laws.proofs.NumberSums.{total-same, total-ends_at}
use Rattle.seam_laws.proofs.Balance.{held-beside}
use Rattle.seam_laws.proofs.NodePlaces.{node_at, node_at-level, IsNode-at, transitional-high, transitional-low, ShareFace-at}
use Rattle.seam_laws.proofs.PairSums.{step}

-- whether a node is the root, or lies in a split node
abbrev pub is_held : ℕ → LevelMap → Node → Bool
is_held depth m n = n.level == depth || m (parent n)

-- the test of a leaf with its first part passed
leaf-test : (a b c d : Bool) → a ≡ true → b ≡ d → ((a && not b) && c) ≡ (not d && c)
leaf-test a b c d ea eb = rw (ea, eb) refl

-- a node of the world is a leaf where it isn't split and belongs to the octree
pub is_leaf-at : (depth : ℕ) (m : LevelMap) (n : Node) → IsNode depth n
    → is_leaf depth m n ≡ (not (m n) && is_held depth m n)
is_leaf-at depth m n n_in = leaf-test (is_node depth n) (m n) (is_held depth m n) (m n)
    ((node_test depth n).1 n_in) refl

-- one of two reasons is enough
held-true : (a b : Bool) → (a ≡ true) ⊎ (b ≡ true) → (a || b) ≡ true
held-true true b h = refl
held-true false b (inl e) = absurd (false≢true e)
held-true false b (inr e) = e

-- what two neighbours say of the face between them: fine where the other one is split
abbrev pub pick : Bool → ℤ → ℤ → ℤ
pick true fine coarse = fine
pick false fine coarse = coarse

-- both split: neither has squares on the face
neither : (fine coarse : ℤ) → pos 0 -ℤ pos 0 ≡ (coarse -ℤ coarse) -ℤ (fine -ℤ fine)
neither fine coarse = omega (arith, ints)

-- the first one is a leaf, the second is split
first : (fine coarse : ℤ) → fine -ℤ pos 0 ≡ (coarse -ℤ coarse) -ℤ (pos 0 -ℤ fine)
first fine coarse = omega (arith, ints)

-- the first one is split, the second is a leaf
second : (fine coarse : ℤ) → pos 0 -ℤ fine ≡ (coarse -ℤ coarse) -ℤ (fine -ℤ pos 0)
second fine coarse = omega (arith, ints)

-- two neighbours of which each is the root or in a split node where the other one is split
pub between : (s s' t t' : Bool) (fine coarse : ℤ) → (s ≡ true → t ≡ true) → (s ≡ true → t' ≡ true)
    → (s' ≡ true → t ≡ true) → (s' ≡ true → t' ≡ true)
    → when (not s && t) (pick s' fine coarse) -ℤ when (not s' && t') (pick s fine coarse)
    ≡ step t t' coarse -ℤ step s s' fine
between true true t t' fine coarse h1 h2 h3 h4 = rw (h1 refl, h2 refl) (neither fine coarse)
between true false t t' fine coarse h1 h2 h3 h4 = rw (h1 refl, h2 refl) (second fine coarse)
between false true t t' fine coarse h1 h2 h3 h4 = rw (h3 refl, h4 refl) (first fine coarse)
between false false t t' fine coarse h1 h2 h3 h4 = omega (arith, ints)

-- tests in another order
under : (a b c : Bool) (x y : ℤ) → when a (when b x -ℤ when c y) ≡ when b (when a x) -ℤ when c
    (when a y)
under true b c x y = refl
under false b c x y = rw (when-nothing b, when-nothing c) refl
  where
    when-nothing : (b : Bool) → when b (pos 0) ≡ pos 0
    when-nothing true = refl
    when-nothing false = refl

module _ (depth : ℕ) (m : LevelMap) (balanced : IsFaceBalanced depth m) where
  -- a split node is the root or lies in a split one, and so do its neighbours
  pub held-itself : (n : Node) → m n ≡ true → is_held depth m n ≡ true
  held-itself n is_split =
      held-true (n.level == depth) (m (parent n))
      (elim (balanced.octree.held n is_split)
      [ inl top ↦ inl (eq-eqb n.level depth top) | inr held ↦ inr held ])

  -- from the definition with `or` to the test
  pub held-near : (a b : Node) → m a ≡ true → (b.level ≡ depth) ⊎ (m (parent b) ≡ true)
      → is_held depth m b ≡ true
  held-near a b is_split h = held-true (b.level == depth) (m (parent b))
      (elim h [ inl top ↦ inl (eq-eqb b.level depth top) | inr held ↦ inr held ])

  module _ (level : ℕ) (axis : Axis) (within : level ≤ depth) where
    -- whether the node at these indices is split
    abbrev split_at : ℕ → ℕ → ℕ → Bool
    split_at c u v = m (node_at level axis c u v)

    -- whether it belongs to the octree
    abbrev held_at : ℕ → ℕ → ℕ → Bool
    held_at c u v = is_held depth m (node_at level axis c u v)

    module _ (u v : ℕ) (u_in : u < nodes_across depth level) (v_in : v < nodes_across depth level)
      where
        -- it is a node of the world
        node-in : (c : ℕ) → c < nodes_across depth level → IsNode depth (node_at level axis c u v)
        node-in c c_in = IsNode-at depth level axis c u v within c_in u_in v_in

        -- two nodes of a row are of one level
        same-level : (c d : ℕ) → (node_at level axis c u v).level ≡ (node_at level axis d u v).level
        same-level c d = node_at-level level axis c u v ∙ sym (node_at-level level axis d u v)

        -- the neighbour behind a split node belongs to the octree
        held-after : (c : ℕ) → suc c < nodes_across depth level → split_at c u v ≡ true
            → held_at (suc c) u v ≡ true
        held-after c c_in is_split =
            held-near (node_at level axis c u v) (node_at level axis (suc c) u v) is_split
            (held-beside depth m balanced (node_at level axis c u v)
            (node_at level axis (suc c) u v) is_split (node-in (suc c) c_in) (same-level (suc c) c)
            (ShareFace-at level axis c u v))

        -- so does the one before it
        held-before : (c : ℕ) → suc c < nodes_across depth level → split_at (suc c) u v ≡ true
            → held_at c u v ≡ true
        held-before c c_in is_split =
            held-near (node_at level axis (suc c) u v) (node_at level axis c u v) is_split
            (held-beside depth m balanced (node_at level axis (suc c) u v)
            (node_at level axis c u v) is_split (node-in c (omega arith)) (same-level c (suc c))
            (ShareFace-turned (node_at level axis c u v) (node_at level axis (suc c) u v)
            (ShareFace-at level axis c u v)))

        -- two neighbours, by the numbers that a face has where it is fine and where it isn't
        at-pair : (c : ℕ) (fine coarse : ℤ) → suc c < nodes_across depth level
            → when (is_leaf depth m (node_at level axis c u v))
            (pick (split_at (suc c) u v) fine coarse) -ℤ when
            (is_leaf depth m (node_at level axis (suc c) u v)) (pick (split_at c u v) fine coarse)
            ≡ step (held_at c u v) (held_at (suc c) u v) coarse -ℤ step (split_at c u v)
            (split_at (suc c) u v) fine
        at-pair c fine coarse c_in =
            rw (
              is_leaf-at depth m (node_at level axis c u v) (node-in c (omega arith)),
              is_leaf-at depth m (node_at level axis (suc c) u v) (node-in (suc c) c_in),
            )
            (between (split_at c u v) (split_at (suc c) u v) (held_at c u v) (held_at (suc c) u v)
            fine coarse
            (held-itself (node_at level axis c u v)) (held-after c c_in) (held-before c c_in)
            (held-itself (node_at level axis (suc c) u v)))

        -- whether the node at c of the row is a leaf
        abbrev leaf : ℕ → Bool
        leaf c = is_leaf depth m (node_at level axis c u v)

        -- whether its high face is transitional
        abbrev is_fine_above : ℕ → Bool
        is_fine_above c = is_transitional depth m (node_at level axis c u v) (high_face axis)

        -- whether its low face is transitional
        abbrev is_fine_below : ℕ → Bool
        is_fine_below c = is_transitional depth m (node_at level axis c u v) (low_face axis)

        -- what the nodes of a row say of their faces inside the world is what their pairs say
        pub row : (fine coarse : ℕ → ℤ)
            → (let N = nodes_across depth level in
            total N (λ c. when (is_leaf depth m (node_at level axis c u v))
            (when (nat_lt (c + 1) N)
            (pick (is_transitional depth m (node_at level axis c u v) (high_face axis))
            (fine (suc c)) (coarse (suc c))) -ℤ when (nat_lt 0 c)
            (pick (is_transitional depth m (node_at level axis c u v) (low_face axis)) (fine c)
            (coarse c))))
            ≡ total (N - 1) (λ c. step (held_at c u v) (held_at (suc c) u v) (coarse (suc c))
            -ℤ step (split_at c u v) (split_at (suc c) u v) (fine (suc c))))
        row fine coarse =
            let N = nodes_across depth level in
            let high : ℕ → ℤ =
            λ c. when (leaf c) (pick (is_fine_above c) (fine (suc c)) (coarse (suc c))) in
            let low : ℕ → ℤ = λ c. when (leaf c) (pick (is_fine_below c) (fine c) (coarse c)) in
            let k_in : N ≡ suc (N - 1) = omega (arith, pow_pos (depth - level)) in
            total-same N (λ c. when (leaf c) (when (nat_lt (c + 1) N)
            (pick (is_fine_above c) (fine (suc c)) (coarse (suc c))) -ℤ when (nat_lt 0 c)
            (pick (is_fine_below c) (fine c) (coarse c))))
            (λ c. when (nat_lt (c + 1) N) (high c) -ℤ when (nat_lt 0 c) (low c)) (λ c c_in.
            under (leaf c) (nat_lt (c + 1) N) (nat_lt 0 c)
            (pick (is_fine_above c) (fine (suc c)) (coarse (suc c)))
            (pick (is_fine_below c) (fine c) (coarse c)))
            ∙ total-ends_at N (N - 1) high low k_in
            ∙ total-same (N - 1) (λ c. high c -ℤ low (suc c))
            (λ c. step (held_at c u v) (held_at (suc c) u v) (coarse (suc c))
            -ℤ step (split_at c u v) (split_at (suc c) u v) (fine (suc c))) (λ c c_in.
            let above : is_fine_above c ≡ split_at (suc c) u v =
            transitional-high depth m level axis c u v (omega arith) u_in v_in in
            let below : is_fine_below (suc c) ≡ split_at c u v =
            transitional-low depth m level axis c u v (omega arith) u_in v_in in
            (λ t. when (leaf c) (pick (above t) (fine (suc c)) (coarse (suc c)))
            -ℤ when (leaf (suc c)) (pick (below t) (fine (suc c)) (coarse (suc c))))
            ∙ at-pair c (fine (suc c)) (coarse (suc c)) (omega arith))
