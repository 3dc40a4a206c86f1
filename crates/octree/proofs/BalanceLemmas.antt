-- The level map of viewpoints is an octree, balanced, and the least that splits the wanted nodes: the clauses
-- `balanced`, `wanted` and `least` of `choose`, and the law `maps_of_viewpoints_are_balanced` (docs/rules.md, "Levels
-- and balance").
--
-- The key is `split-beside`: a node that shares a segment with a split node one level below is split, since then that
-- node is near one of its children (`child_beside`). A parent shares a segment with its child, so the map is an octree
-- (`split-held`). Balance: were a leaf two levels above one that it touches, one climbs from the lower one's split
-- parent to the level below the higher one (`climb`), and the higher one is split. Least: by the levels from below
-- (`least_at`), as each reason to be split is one that balance gives too (`split-cause`).
use Rattle.std.proofs.Common.{◌≡◌, ℕ, zero, suc, ◌+◌, ◌-◌, ◌*◌, ◌<◌, ◌≤◌, Bool, true, false, List, ◌⊎◌, refl, inl, inr, sym, ap, ◌∙◌, subst, arith}
use Rattle.std.proofs.lemmas.Bool.{and_parts, and_from, false_from_ne_true, cases_lt, ltb-true, false≢true}
use Rattle.lattice.specs.declared.point.Point.{Point}
use Rattle.lattice.specs.declared.node.Node.{Node}
use Rattle.lattice.specs.declared.settings.Settings.{Settings}
use Rattle.lattice.specs.Node.{node_side, IsNode, is_node, parent, children}
use Rattle.lattice.specs.Offset.{near_nodes}
use Rattle.lattice.proofs.FamilyLemmas.{IsNode-parent}
use Rattle.lattice.proofs.TestLemmas.{node_test}
use Rattle.terrain.specs.Lists.{any_of}
use Rattle.terrain.specs.Levels.{LevelMap, is_wanted, is_wanted_from, is_split_at, split, IsLeaf, IsOctree, IsBalanced, ShareSegment}
use Rattle.level_laws.proofs.NodeLemmas.{child, Contains-child, IsChild-listed}
use Rattle.level_laws.proofs.RangeLemmas.{side_more, side_some}
use Rattle.level_laws.proofs.ShareLemmas.{ShareSegment-parent, ShareSegment-turned}
use Rattle.level_laws.proofs.SplitLemmas.{segment_splits}
use Rattle.octree.specs.Choice.{SplitsWanted, IsLeast}
use Rattle.octree.proofs.ListLemmas.{IsIn, any_of-in, any_of-tells}
use Rattle.octree.proofs.ShareSegmentLemmas.{next_half, ShareSegment-itself}
use Rattle.octree.proofs.BesideLemmas.{IsBeside, IsIn-near, IsNearNode, near_tells, ShareSegment-beside}
use Rattle.octree.proofs.LeafLemmas.{Contains-listed, IsIn-contained}

-- ---- segments between a node and the children of another

-- a child that is beside a node of its own level, which shares a segment with its parent
record ChildBeside (a q : Node) : Type 0 where
  child : Node
  listed : IsIn child (children a)
  beside : IsBeside child q

-- the child of a that lies beside q, axis by axis, where a shares a segment with q
child_beside : (a q : Node) → a.level ≡ q.level + 1 → ShareSegment a q → ChildBeside a q
child_beside a q above h =
    let s = node_side q.level in
    let S = node_side a.level in
    let twice : S ≡ 2 * s = ap node_side above ∙ side_more q.level in
    let some = side_some q.level in
    let z = next_half a.k s S q.k twice some h.z in
    let y = next_half a.j s S q.j twice some h.y in
    let x = next_half a.i s S q.i twice some h.x in
    record {
      child = child a z.side y.side x.side;
      listed = IsIn-contained (children a) _
          (Contains-child a z.side y.side x.side z.low y.low x.low);
      beside = record {
        level = omega arith;
        step = record { z = z.step; y = y.step; x = x.step };
        z_short = z.short;
        y_short = y.short;
        x_short = x.short;
        k = z.next;
        j = y.next;
        i = x.next;
        in_line = elim h.length [
          | inl o ↦ inl (z.overlap o)
          | inr o ↦ elim o [
            | inl p ↦ inr (inl (y.overlap p))
            | inr p ↦ inr (inr (x.overlap p))
          ]
        ];
      };
    }

-- ---- octrees

module _ (depth : ℕ) (m : LevelMap) (tree : IsOctree depth m) where
  -- a split node of a level above a split node, which shares what that one shares
  record SplitAbove (a : Node) (level : ℕ) : Type 0 where
    node : Node
    is_split : m node ≡ true
    at : node.level ≡ level
    shares : ShareSegment a node

  -- from a split node up through its split parents to a level, all sharing what it shares
  climb : (gap level : ℕ) (a b : Node) → m b ≡ true → ShareSegment a b → b.level + gap ≡ level
      → level ≤ depth → SplitAbove a level
  climb zero level a b is_split h at within =
      record { node = b; is_split = is_split; at = omega arith; shares = h }
  climb (suc gap) level a b is_split h at within =
      elim (tree.held b is_split) [
        | inl top ↦ absurd (omega arith)
        | inr held ↦ climb gap level a (parent b) held (ShareSegment-parent a b h) (omega arith)
            within
      ]

-- ---- the level map of viewpoints

-- the parent of a node shares a segment with what is near that node
pub ShareSegment-near : (depth : ℕ) (c q : Node) → IsNearNode depth c q → ShareSegment (parent c) q
ShareSegment-near depth c q near =
    ShareSegment-turned q (parent c) (ShareSegment-parent q c
    (ShareSegment-turned c q (ShareSegment-beside c q near.beside)))

-- a wanted node is of level 1 or more
wanted-level : (settings : Settings) (points : List Point) (n : Node)
    → is_wanted settings points n ≡ true → 0 < n.level
wanted-level settings points n h =
    let found = any_of-tells (λ p. is_wanted_from settings p n) points h in
    let near : is_wanted_from settings found.item n ≡ true = found.pass in
    ltb-true 0 n.level (and_parts _ _ near).0

module _ (settings : Settings) (points : List Point) where
  -- a node of a level above 0 is split where it is wanted or a child or a node beside one is
  abbrev beside_splits : ℕ → Node → Bool
  beside_splits level n =
      any_of (λ c. any_of (is_split_at settings points level) (near_nodes settings.depth c))
      (children n)

  -- the definition, unfolded once
  is_split_at-suc : (level : ℕ) (n : Node) → is_split_at settings points (suc level) n
      ≡ (elim (is_wanted settings points n) as (λ _. Bool)
      [ true ↦ true | false ↦ beside_splits level n ])
  unfolding is_split_at
  is_split_at-suc level n = refl

  -- one of the two reasons
  chosen : (w b : Bool) → (elim w as (λ _. Bool) [ true ↦ true | false ↦ b ]) ≡ true
      → (w ≡ true) ⊎ (b ≡ true)
  chosen true b h = inl refl
  chosen false b h = inr h

  -- the first reason is enough
  by_wanted : (w b : Bool) → w ≡ true → (elim w as (λ _. Bool) [ true ↦ true | false ↦ b ]) ≡ true
  by_wanted true b h = refl
  by_wanted false b h = absurd (false≢true h)

  -- the second reason is enough
  by_beside : (w b : Bool) → b ≡ true → (elim w as (λ _. Bool) [ true ↦ true | false ↦ b ]) ≡ true
  by_beside true b h = refl
  by_beside false b h = h

  -- no node of level 0 is split
  split-zero : (n : Node) → n.level ≡ 0 → split settings points n ≡ true → ⊥
  unfolding is_split_at
  split-zero n at h =
      let parts = and_parts (is_node settings.depth n) (is_split_at settings points n.level n) h in
      let low : is_split_at settings points 0 n ≡ true =
      ap (λ l. is_split_at settings points l n) (sym at) ∙ parts.1 in
      false≢true low

  -- a split node is one of the world
  pub split-in_world : (n : Node) → split settings points n ≡ true → IsNode settings.depth n
  split-in_world n h = (node_test settings.depth n).0
      (and_parts (is_node settings.depth n) (is_split_at settings points n.level n) h).0

  -- a split node is of level 1 or more
  split-level : (n : Node) → split settings points n ≡ true → 1 ≤ n.level
  split-level n h =
      elim (cases_lt 0 n.level) [
        | inl some ↦ omega arith
        | inr none ↦ absurd
            (split-zero n (omega arith) h)
      ]

  -- a node is split that shares a segment with a split node of the next lower level
  pub split-beside : (n q : Node) → IsNode settings.depth n → n.level ≡ q.level + 1
      → split settings points q ≡ true → ShareSegment n q → split settings points n ≡ true
  split-beside n q n_in above is_split h =
      let parts = and_parts (is_node settings.depth q) (is_split_at settings points q.level q)
      is_split in
      let c = child_beside n q above h in
      let near = IsIn-near settings.depth c.child q (split-in_world q is_split) c.beside in
      let found : beside_splits q.level n ≡ true =
      any_of-in (λ c. any_of (is_split_at settings points q.level) (near_nodes settings.depth c))
      c.child (children n) c.listed (any_of-in (is_split_at settings points q.level) q
      (near_nodes settings.depth c.child) near parts.1) in
      let at : n.level ≡ suc q.level = omega arith in
      and_from _ _ ((node_test settings.depth n).1 n_in)
      (ap (λ l. is_split_at settings points l n) at ∙ is_split_at-suc q.level n
      ∙ by_beside _ _ found)

  -- a split node is the root or has a split parent: the parent shares a segment with it
  split-held : (n : Node) → split settings points n ≡ true → (n.level ≡ settings.depth)
      ⊎ (split settings points (parent n) ≡ true)
  split-held n h =
      let n_in = split-in_world n h in
      elim (cases_lt n.level settings.depth) [
        | inl below ↦
            let shares = ShareSegment-turned n (parent n)
            (ShareSegment-parent n n (ShareSegment-itself n)) in
            inr (split-beside (parent n) n (IsNode-parent settings.depth n n_in below)
            refl h shares)
        | inr top ↦ inl (omega (arith, n_in.level))
      ]

  -- the map of viewpoints is an octree
  pub split_octree : IsOctree settings.depth (split settings points)
  split_octree = record { in_world = split-in_world; level = split-level; held = split-held }

  -- two leaves that share a segment are at most one level apart
  split-close : (a b : Node) → IsLeaf settings.depth (split settings points) a
      → IsLeaf settings.depth (split settings points) b → ShareSegment a b → a.level ≤ b.level + 1
  split-close a b a_leaf b_leaf h =
      elim (cases_lt (b.level + 1) a.level) [
        | inl far ↦
            elim b_leaf.held [
              | inl top ↦ absurd (omega (arith, a_leaf.node.level))
              | inr held ↦
                  let level = a.level - 1 in
                  let up = climb settings.depth (split settings points) split_octree
                  (level - (b.level + 1)) level a (parent b) held (ShareSegment-parent a b h)
                  (omega arith) (omega (arith, a_leaf.node.level)) in
                  let is_split = split-beside a up.node a_leaf.node (omega (arith, up.at))
                  up.is_split up.shares in
                  absurd (false≢true (sym a_leaf.whole ∙ is_split))
            ]
        | inr near ↦ near
      ]

  -- the map of viewpoints is balanced
  pub split_balanced : IsBalanced settings.depth (split settings points)
  split_balanced = record { octree = split_octree; close = split-close }

  -- a wanted node is split
  wanted-split : (level : ℕ) (n : Node) → n.level ≡ level → IsNode settings.depth n
      → is_wanted settings points n ≡ true → split settings points n ≡ true
  wanted-split zero n at n_in wanted = absurd (omega (arith, wanted-level settings points n wanted))
  wanted-split (suc level) n at n_in wanted =
      and_from _ _ ((node_test settings.depth n).1 n_in)
      (ap (λ l. is_split_at settings points l n) at ∙ is_split_at-suc level n
      ∙ by_wanted _ _ wanted)

  -- a node of level 0 is not split
  pub split-low : (n : Node) → n.level ≡ 0 → split settings points n ≡ false
  split-low n at = false_from_ne_true _ (split-zero n at)

  -- a split node is wanted, or a child of it is beside a split node
  pub record SplitFrom (n : Node) : Type 0 where
    pub low : Node
    pub child : Node
    pub low_split : split settings points low ≡ true
    pub at : low.level + 1 ≡ n.level
    pub child_in : IsNode settings.depth child
    pub near : IsNearNode settings.depth child low
    pub up : n ≡ parent child

  -- a split node is wanted, or a node near a child of it is split
  pub split-cause : (level : ℕ) (n : Node) → n.level ≡ suc level → split settings points n ≡ true
      → (is_wanted settings points n ≡ true) ⊎ SplitFrom n
  split-cause level n at h =
      let n_in = split-in_world n h in
      let parts = and_parts (is_node settings.depth n) (is_split_at settings points n.level n) h in
      let here = sym (is_split_at-suc level n) ∙ ap (λ l. is_split_at settings points l n) (sym at)
      ∙ parts.1 in
      elim (chosen _ _ here) [
        | inl want ↦ inl want
        | inr found ↦
            let c = any_of-tells (λ c. any_of (is_split_at settings points level)
            (near_nodes settings.depth c)) (children n) found in
            let q = any_of-tells (is_split_at settings points level)
            (near_nodes settings.depth c.item) c.pass in
            let c_is = IsChild-listed settings.depth n c.item n_in (omega arith)
            (Contains-listed (children n) c.item c.listed) in
            let above : c.item.level + 1 ≡ n.level = ap (λ (a : Node). a.level) c_is.below in
            let near = near_tells settings.depth c.item q.item c_is.node q.listed in
            let q_level : q.item.level ≡ level = omega (arith, near.beside.level) in
            inr (record {
              low = q.item;
              child = c.item;
              low_split = and_from _ _ ((node_test settings.depth q.item).1 near.node)
                  (ap (λ l. is_split_at settings points l q.item) q_level ∙ q.pass);
              at = omega arith;
              child_in = c_is.node;
              near = near;
              up = sym c_is.below;
            })
      ]

  -- a wanted node is split
  pub split_wanted : SplitsWanted settings points (split settings points)
  split_wanted n n_in wanted = wanted-split n.level n refl n_in wanted

  -- what is split is split by each balanced map that splits the wanted nodes, level by level from below
  least_at : (m : LevelMap) → IsBalanced settings.depth m → SplitsWanted settings points m
      → (level : ℕ) (n : Node) → n.level ≡ level → split settings points n ≡ true → m n ≡ true
  least_at m balanced wanted zero n at h = absurd (split-zero n at h)
  least_at m balanced wanted (suc level) n at h =
      let n_in = split-in_world n h in
      elim (split-cause level n at h) [
        | inl want ↦ wanted n n_in want
        | inr from ↦
            let q_held = least_at m balanced wanted level from.low (omega (arith, from.at))
            from.low_split in
            let shares = ShareSegment-near settings.depth from.child from.low from.near in
            segment_splits settings.depth m balanced n from.low n_in
            (omega (arith, from.at)) q_held
            (subst (λ p. ShareSegment p from.low) (sym from.up) shares)
      ]

  -- each balanced map that splits the wanted nodes splits all that the map of the viewpoints does
  pub split_least : IsLeast settings points (split settings points)
  split_least m balanced wanted n h = least_at m balanced wanted n.level n refl h
