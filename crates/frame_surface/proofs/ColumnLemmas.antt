-- The bound of the search moves over nodes that lie beside the place.
--
-- A bound is a node, before which all triangles are passed. It moves to a later node where no node between the two has
-- anything over the place (`on_nodes`): to the first index of a row that may, and from the last one to the next row
-- (`row_begins`, `row_ends`); so with rows and layers (`layer_begins`, `layer_ends`, `level_ends`), up to the end of
-- the world (`all-highest`, `all-bare`). A node itself is passed where it has no triangle, or where all are passed
-- (`node_passed`).
use Rattle.std.proofs.Common.{◌≡◌, ℕ, ◌+◌, ◌-◌, ◌*◌, ◌/◌, ◌<◌, ◌≤◌, ◌⊎◌, inl, inr, ap, subst, arith}
use Rattle.std.specs.Prelude.{IfNone, IfSome, None, Option, Some}
use Rattle.std.proofs.Math.Nat.{mul-le-mul_right}
use Rattle.std.proofs.lemmas.Bool.{cases_lt}
use Rattle.std.proofs.lemmas.Nat.{div_below, le-div}
use Rattle.lattice.specs.declared.node.Node.{Node}
use Rattle.lattice.specs.Node.{nodes_across}
use Rattle.lattice.specs.Orders.{NodeIsBefore}
use Rattle.frame_surface.proofs.ScanLemmas.{moved_on}
use Rattle.frame_surface.specs.Best.{IsBare, IsHighest}
use Rattle.frame_surface.specs.Columns.{HoldsPlace, IsIndex, StandsOverNodes}
use Rattle.frame_surface.specs.Heights.{Covers}
use Rattle.frame_surface.specs.Scan.{IsBestBefore}
use Rattle.frame_surface.specs.Surface.{IsEarlier, Surface}
use Rattle.frame_surface.specs.declared.hit.Hit.{Hit}
use Rattle.octree.specs.declared.indices.Indices.{Indices}

-- a node by its level and its indices
abbrev pub node_at : ℕ → ℕ → ℕ → ℕ → Node
node_at level k j i = record { level = level; k = k; j = j; i = i }

-- ---- the indices that hold a place

-- an index whose range holds a coordinate isn't past the coordinate's own
pub not_past : (at index side : ℕ) → 0 < side → index * side ≤ at → index ≤ at / side
not_past at index side some low = le-div index at side some low

-- nor before that of the coordinate just below
pub not_before : (at index side : ℕ) → 0 < side → at ≤ (index + 1) * side
    → (at - 1) / side ≤ index
not_before at index side some high =
    let whole : 1 * side ≤ (index + 1) * side = mul-le-mul_right side (omega arith) in
    let below : (at - 1) / side < index + 1 =
    div_below (at - 1) side (index + 1) some (omega (arith, whole, high)) in
    omega (arith, below)

-- ---- the order of nodes

-- further along a row
further_i : (n : Node) (l k j i i' : ℕ) → i ≤ i' → NodeIsBefore n (node_at l k j i)
    → NodeIsBefore n (node_at l k j i')
further_i n l k j i i' more (inl a) = inl a
further_i n l k j i i' more (inr (a, inl b)) = inr (a, inl b)
further_i n l k j i i' more (inr (a, inr (b, inl c))) = inr (a, inr (b, inl c))
further_i n l k j i i' more (inr (a, inr (b, inr (c, d)))) =
    inr (a, inr (b, inr (c, omega arith)))

-- in a later row
further_j : (n : Node) (l k j i j' : ℕ) → j < j' → NodeIsBefore n (node_at l k j i)
    → NodeIsBefore n (node_at l k j' 0)
further_j n l k j i j' more (inl a) = inl a
further_j n l k j i j' more (inr (a, inl b)) = inr (a, inl b)
further_j n l k j i j' more (inr (a, inr (b, inl c))) = inr (a, inr (b, inl (omega arith)))
further_j n l k j i j' more (inr (a, inr (b, inr (c, d)))) = inr (a, inr (b, inl (omega arith)))

-- at the beginning of a row that is no earlier
same_or_further_j : (n : Node) (l k j j' : ℕ) → j ≤ j' → NodeIsBefore n (node_at l k j 0)
    → NodeIsBefore n (node_at l k j' 0)
same_or_further_j n l k j j' more (inl a) = inl a
same_or_further_j n l k j j' more (inr (a, inl b)) = inr (a, inl b)
same_or_further_j n l k j j' more (inr (a, inr (b, inl c))) =
    inr (a, inr (b, inl (omega arith)))
same_or_further_j n l k j j' more (inr (a, inr (b, inr (c, d)))) = absurd (omega arith)

-- in the next layer
further_k : (n : Node) (l k j i : ℕ) → NodeIsBefore n (node_at l k j i)
    → NodeIsBefore n (node_at l (k + 1) 0 0)
further_k n l k j i (inl a) = inl a
further_k n l k j i (inr (a, inl b)) = inr (a, inl (omega arith))
further_k n l k j i (inr (a, inr (b, c))) = inr (a, inl (omega arith))

-- on the next level
further_level : (n : Node) (l k j i : ℕ) → NodeIsBefore n (node_at l k j i)
    → NodeIsBefore n (node_at (l + 1) 0 0 0)
further_level n l k j i (inl a) = inl (omega arith)
further_level n l k j i (inr (a, b)) = inl (omega arith)

-- nodes by their parts
same_node : (n m : Node) → n.level ≡ m.level → n.k ≡ m.k → n.j ≡ m.j → n.i ≡ m.i → n ≡ m
same_node n m l k j i = λ t. record { level = l t; k = k t; j = j t; i = i t }

-- before the next node of a row
before_next : (n m : Node) → NodeIsBefore n (record m { i = m.i + 1 })
    → NodeIsBefore n m ⊎ (n ≡ m)
before_next n m (inl a) = inl (inl a)
before_next n m (inr (a, inl b)) = inl (inr (a, inl b))
before_next n m (inr (a, inr (b, inl c))) = inl (inr (a, inr (b, inl c)))
before_next n m (inr (a, inr (b, inr (c, d)))) = elim (cases_lt n.i m.i) [
  | inl less ↦ inl (inr (a, inr (b, inr (c, less))))
  | inr more ↦ inr (same_node n m a b c (omega arith))
]

-- this node and those before it
on_next : (n m : Node) → NodeIsBefore n m → NodeIsBefore n (record m { i = m.i + 1 })
on_next n m before = further_i n m.level m.k m.j m.i (m.i + 1) (omega arith) before

-- the node itself is before the next one
this_next : (n m : Node) → n ≡ m → NodeIsBefore n (record m { i = m.i + 1 })
this_next n m same =
    let i : n.i < m.i + 1 = omega (arith, ap (λ (n : Node). n.i) same) in
    inr (
      ap (λ (n : Node). n.level) same,
      inr (
        ap (λ (n : Node). n.k) same,
        inr (ap (λ (n : Node). n.j) same, i),
      ),
    )

-- ---- moving the bound

module _ (s : Surface) (x y : ℕ) where
  -- between nodes
  on_nodes : (b b' : Node) (o : Option Hit)
      → ((n : Node) → NodeIsBefore n b → NodeIsBefore n b')
      → ((n : Node) (i num den : ℕ) → NodeIsBefore n b' → Covers (s n i) x y num den
      → NodeIsBefore n b) → IsBestBefore s x y b 0 o → IsBestBefore s x y b' 0 o
  on_nodes b b' o up down before =
      moved_on s x y b b' 0 0 o (λ n i early. widen n i early)
      (λ n i num den early covers. narrow n i num den early covers) before
    where
      widen : (n : Node) (i : ℕ) → IsEarlier n i b 0 → IsEarlier n i b' 0
      widen n i (inl early) = inl (up n early)
      widen n i (inr (same, less)) = absurd (omega arith)

      narrow : (n : Node) (i num den : ℕ) → IsEarlier n i b' 0 → Covers (s n i) x y num den
          → IsEarlier n i b 0
      narrow n i num den (inl early) covers = inl (down n i num den early covers)
      narrow n i num den (inr (same, less)) covers = absurd (omega arith)

  -- past a node whose triangles from a number on cover nothing
  pub node_passed : (m : Node) (t : ℕ) (o : Option Hit)
      → ((i num den : ℕ) → t ≤ i → Covers (s m i) x y num den → ⊥)
      → IsBestBefore s x y m t o → IsBestBefore s x y (record m { i = m.i + 1 }) 0 o
  node_passed m t o none before =
      moved_on s x y m (record m { i = m.i + 1 }) t 0 o (λ n i early. widen n i early)
      (λ n i num den early covers. narrow n i num den early covers) before
    where
      widen : (n : Node) (i : ℕ) → IsEarlier n i m t → IsEarlier n i (record m { i = m.i + 1 }) 0
      widen n i (inl early) = inl (on_next n m early)
      widen n i (inr (same, less)) = inl (this_next n m same)

      own : (n : Node) (i num den : ℕ) → n ≡ m → Covers (s n i) x y num den → IsEarlier n i m t
      own n i num den same covers = elim (cases_lt i t) [
        | inl less ↦ inr (same, less)
        | inr more ↦
            absurd (none i num den more (subst (λ n. Covers (s n i) x y num den) same covers))
      ]

      narrow : (n : Node) (i num den : ℕ) → IsEarlier n i (record m { i = m.i + 1 }) 0
          → Covers (s n i) x y num den → IsEarlier n i m t
      narrow n i num den (inr (same, less)) covers = absurd (omega arith)
      narrow n i num den (inl early) covers = elim (before_next n m early) [
        | inl earlier ↦ inl earlier
        | inr same ↦ own n i num den same covers
      ]

  -- before any node nothing is passed
  pub none_passed : IsBestBefore s x y (node_at 0 0 0 0) 0 None
  none_passed = λ n i num den early covers. nothing n i early
    where
      nothing : (n : Node) (i : ℕ) → IsEarlier n i (node_at 0 0 0 0) 0 → ⊥
      nothing n i (inl (inl a)) = omega arith
      nothing n i (inl (inr (a, inl b))) = omega arith
      nothing n i (inl (inr (a, inr (b, inl c)))) = omega arith
      nothing n i (inl (inr (a, inr (b, inr (c, d))))) = omega arith
      nothing n i (inr (same, less)) = omega arith

  module _ (depth : ℕ) (over : StandsOverNodes depth s) (l : ℕ) where
    -- the indices of the nodes of a level that hold the place, on an axis
    abbrev pub HasIndices : ℕ → Indices → Type 0
    HasIndices at indices =
        (index : ℕ) → index < nodes_across depth l → HoldsPlace l index at → IsIndex indices index

    -- what covers the place is of such an index
    index_i : (is : Indices) → HasIndices x is → (n : Node) (i num den : ℕ) → n.level ≡ l
        → Covers (s n i) x y num den → IsIndex is n.i
    index_i is has n i num den level covers =
        let node = over.node n i x y num den covers in
        has n.i (subst (λ l. n.i < nodes_across depth l) level node.i)
        (subst (λ l. HoldsPlace l n.i x) level (over.x n i x y num den covers))

    -- the same along y
    index_j : (js : Indices) → HasIndices y js → (n : Node) (i num den : ℕ) → n.level ≡ l
        → Covers (s n i) x y num den → IsIndex js n.j
    index_j js has n i num den level covers =
        let node = over.node n i x y num den covers in
        has n.j (subst (λ l. n.j < nodes_across depth l) level node.j)
        (subst (λ l. HoldsPlace l n.j y) level (over.y n i x y num den covers))

    module _ (k : ℕ) where
      -- a row begins
      pub row_begins : (is : Indices) → HasIndices x is → (j : ℕ) (o : Option Hit)
          → IsBestBefore s x y (node_at l k j 0) 0 o
          → IsBestBefore s x y (node_at l k j is.low) 0 o
      row_begins is has j o before =
          on_nodes (node_at l k j 0) (node_at l k j is.low) o
          (λ n early. further_i n l k j 0 is.low (omega arith) early)
          (λ n i num den early covers. down n i num den early covers) before
        where
          down : (n : Node) (i num den : ℕ) → NodeIsBefore n (node_at l k j is.low)
              → Covers (s n i) x y num den → NodeIsBefore n (node_at l k j 0)
          down n i num den (inl a) covers = inl a
          down n i num den (inr (a, inl b)) covers = inr (a, inl b)
          down n i num den (inr (a, inr (b, inl c))) covers = inr (a, inr (b, inl c))
          down n i num den (inr (a, inr (b, inr (c, d)))) covers =
              let index = index_i is has n i num den a covers in
              absurd (omega (arith, index.low, d))

      -- and ends
      pub row_ends : (is : Indices) → HasIndices x is → (j : ℕ) (o : Option Hit)
          → IsBestBefore s x y (node_at l k j is.end) 0 o
          → IsBestBefore s x y (node_at l k (j + 1) 0) 0 o
      row_ends is has j o before =
          on_nodes (node_at l k j is.end) (node_at l k (j + 1) 0) o
          (λ n early. further_j n l k j is.end (j + 1) (omega arith) early)
          (λ n i num den early covers. down n i num den early covers) before
        where
          down : (n : Node) (i num den : ℕ) → NodeIsBefore n (node_at l k (j + 1) 0)
              → Covers (s n i) x y num den → NodeIsBefore n (node_at l k j is.end)
          down n i num den (inl a) covers = inl a
          down n i num den (inr (a, inl b)) covers = inr (a, inl b)
          down n i num den (inr (a, inr (b, inr (c, d)))) covers = absurd (omega arith)
          down n i num den (inr (a, inr (b, inl c))) covers =
              let index = index_i is has n i num den a covers in
              elim (cases_lt n.j j) [
                | inl less ↦ inr (a, inr (b, inl less))
                | inr more ↦ inr (a, inr (b, inr (omega arith, index.end)))
              ]

      -- a layer begins
      pub layer_begins : (js : Indices) → HasIndices y js → (o : Option Hit)
          → IsBestBefore s x y (node_at l k 0 0) 0 o
          → IsBestBefore s x y (node_at l k js.low 0) 0 o
      layer_begins js has o before =
          on_nodes (node_at l k 0 0) (node_at l k js.low 0) o
          (λ n early. same_or_further_j n l k 0 js.low (omega arith) early)
          (λ n i num den early covers. down n i num den early covers) before
        where
          down : (n : Node) (i num den : ℕ) → NodeIsBefore n (node_at l k js.low 0)
              → Covers (s n i) x y num den → NodeIsBefore n (node_at l k 0 0)
          down n i num den (inl a) covers = inl a
          down n i num den (inr (a, inl b)) covers = inr (a, inl b)
          down n i num den (inr (a, inr (b, inl c))) covers =
              let index = index_j js has n i num den a covers in
              absurd (omega (arith, index.low, c))
          down n i num den (inr (a, inr (b, inr (c, d)))) covers = absurd (omega arith)

      -- and ends
      pub layer_ends : (js : Indices) → HasIndices y js → (o : Option Hit)
          → IsBestBefore s x y (node_at l k js.end 0) 0 o
          → IsBestBefore s x y (node_at l (k + 1) 0 0) 0 o
      layer_ends js has o before =
          on_nodes (node_at l k js.end 0) (node_at l (k + 1) 0 0) o
          (λ n early. further_k n l k js.end 0 early)
          (λ n i num den early covers. down n i num den early covers) before
        where
          down : (n : Node) (i num den : ℕ) → NodeIsBefore n (node_at l (k + 1) 0 0)
              → Covers (s n i) x y num den → NodeIsBefore n (node_at l k js.end 0)
          down n i num den (inl a) covers = inl a
          down n i num den (inr (a, inr (b, c))) covers =
              let index = index_j js has n i num den a covers in
              later n a b index.end c
            where
              later : (n : Node) → n.level ≡ l → n.k ≡ k + 1 → n.j < js.end
                  → (n.j < 0) ⊎ ((n.j ≡ 0) × (n.i < 0))
                  → NodeIsBefore n (node_at l k js.end 0)
              later n a b c (inl d) = absurd (omega arith)
              later n a b c (inr (d, e)) = absurd (omega arith)
          down n i num den (inr (a, inl b)) covers =
              let index = index_j js has n i num den a covers in
              elim (cases_lt n.k k) [
                | inl less ↦ inr (a, inl less)
                | inr more ↦ inr (a, inr (omega arith, inl index.end))
              ]

    -- a level ends
    pub level_ends : (o : Option Hit)
        → IsBestBefore s x y (node_at l (nodes_across depth l) 0 0) 0 o
        → IsBestBefore s x y (node_at (l + 1) 0 0 0) 0 o
    level_ends o before =
        on_nodes (node_at l (nodes_across depth l) 0 0) (node_at (l + 1) 0 0 0) o
        (λ n early. further_level n l (nodes_across depth l) 0 0 early)
        (λ n i num den early covers. down n i num den early covers) before
      where
        down : (n : Node) (i num den : ℕ) → NodeIsBefore n (node_at (l + 1) 0 0 0)
            → Covers (s n i) x y num den → NodeIsBefore n (node_at l (nodes_across depth l) 0 0)
        down n i num den (inl a) covers =
            let node = over.node n i x y num den covers in
            elim (cases_lt n.level l) [
              | inl less ↦ inl less
              | inr more ↦
                  let level : n.level ≡ l = omega arith in
                  inr (level, inl (subst (λ l. n.k < nodes_across depth l) level node.k))
            ]
        down n i num den (inr (a, inl b)) covers = absurd (omega arith)
        down n i num den (inr (a, inr (b, inl c))) covers = absurd (omega arith)
        down n i num den (inr (a, inr (b, inr (c, d)))) covers = absurd (omega arith)

  -- at the end of the world all is passed
  module _ (depth : ℕ) (over : StandsOverNodes depth s) where
    -- each triangle that covers something is before the end of the world
    all_before : (n : Node) (i num den : ℕ) → Covers (s n i) x y num den
        → IsEarlier n i (node_at (depth + 1) 0 0 0) 0
    all_before n i num den covers =
        let node = over.node n i x y num den covers in
        inl (inl (omega (arith, node.level)))

    -- so a hit is the highest of all
    pub all-highest : (o : Option Hit) → IsBestBefore s x y (node_at (depth + 1) 0 0 0) 0 o
        → IfSome o (IsHighest s x y)
    all-highest None best = tt
    all-highest (Some hit) best =
        λ n i num den covers. best.highest n i num den (all_before n i num den covers) covers

    -- and without one nothing is covered
    pub all-bare : (o : Option Hit) → IsBestBefore s x y (node_at (depth + 1) 0 0 0) 0 o
        → IfNone o (IsBare s x y)
    all-bare None best =
        λ n i num den covers. best n i num den (all_before n i num den covers) covers
    all-bare (Some hit) best = tt
