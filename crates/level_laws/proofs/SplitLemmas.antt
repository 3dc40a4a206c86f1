-- In an octree whose leaves that share something are of levels close to each other, what shares with a split node of
-- the level below is split: the law `balance_splits_nodes_beside_split_ones`.
-- Suppose it weren't. Then some leaf holds the node or is it, of at least its level, and shares with the split node
-- (leaf_above, upward by parents); and within the split node, some leaf of a lower level shares with that leaf
-- (leaf_below, downward by children). These two leaves are two levels apart, which balance excludes (balance_splits).
-- It is said of any Kind, and so of segments and of faces.
--
-- Offered to the proofs of the crates above, which import them: `segment_splits` and `face_splits`.
use Rattle.std.proofs.Common.{◌≡◌, ℕ, zero, suc, ◌+◌, ◌-◌, ◌<◌, ◌≤◌, true, false, refl, inl, inr, ap, ◌∙◌, arith}
use Rattle.std.proofs.lemmas.Bool.{cases_Bool}
use Rattle.lattice.specs.declared.node.Node.{Node}
use Rattle.lattice.specs.Node.{IsNode, parent}
use Rattle.lattice.proofs.FamilyLemmas.{IsNode-parent}
use Rattle.terrain.specs.Levels.{LevelMap, IsLeaf, IsOctree, IsBalanced, ShareSegment}
use Rattle.level_laws.specs.Balance.{ShareFace, IsFaceBalanced}
use Rattle.level_laws.proofs.ShareLemmas.{Kind, Share, segment, face, of_segment, to_segment, of_face, to_face, turned, with_parent, child_towards}

module _ (kind : Kind) (depth : ℕ) (m : LevelMap) (tree : IsOctree depth m) where
  -- the leaf that holds a node which isn't split
  record LeafAbove (n a : Node) : Type 0 where
    leaf : Node
    is : IsLeaf depth m leaf
    above : n.level ≤ leaf.level
    shares : Share kind a leaf

  -- it is found upward, from parent to parent; fuel is how many levels there are above
  leaf_above : (fuel : ℕ) (n a : Node) → n.level + fuel ≡ depth → IsNode depth n → m n ≡ false
      → Share kind a n → LeafAbove n a
  leaf_above zero n a at n_in whole h =
      record {
        leaf = n;
        is = record { node = n_in; whole = whole; held = inl (omega arith) };
        above = omega arith;
        shares = h;
      }
  leaf_above (suc fuel) n a at n_in whole h =
      elim (cases_Bool (m (parent n))) [
        | inl held ↦ record {
          leaf = n;
          is = record { node = n_in; whole = whole; held = inr held };
          above = omega arith;
          shares = h;
        }
        | inr bare ↦
            let next = leaf_above fuel (parent n) a (omega arith)
            (IsNode-parent depth n n_in (omega arith)) bare (with_parent kind a n h) in
            record {
              leaf = next.leaf;
              is = next.is;
              above = omega (arith, next.above);
              shares = next.shares;
            }
      ]

  -- a leaf within a node that is split
  record LeafBelow (q b : Node) : Type 0 where
    leaf : Node
    is : IsLeaf depth m leaf
    below : leaf.level < q.level
    shares : Share kind b leaf

  -- it is found downward, by a child that shares what the node does
  leaf_below : (level : ℕ) (q b : Node) → q.level ≡ level → m q ≡ true → Share kind b q
      → LeafBelow q b
  leaf_below zero q b at is_split h = absurd (omega (arith, tree.level q is_split))
  leaf_below (suc level) q b at is_split h =
      let r = child_towards kind depth b q (tree.in_world q is_split)
      (tree.level q is_split) h in
      elim (cases_Bool (m r.child)) [
        | inl again ↦
            let next = leaf_below level r.child b (omega (arith, r.level)) again r.shares in
            record {
              leaf = next.leaf;
              is = next.is;
              below = omega (arith, next.below, r.level);
              shares = next.shares;
            }
        | inr whole ↦ record {
          leaf = r.child;
          is = record { node = r.is.node; whole = whole; held = inr (ap m r.is.below ∙ is_split) };
          below = omega (arith, r.level);
          shares = r.shares;
        }
      ]

  -- a node that weren't split would give two leaves two levels apart
  balance_splits : ((a b : Node) → IsLeaf depth m a → IsLeaf depth m b → Share kind a b
      → a.level ≤ b.level + 1) → (n q : Node) → IsNode depth n → n.level ≡ q.level + 1 → m q ≡ true
      → Share kind n q → m n ≡ true
  balance_splits close n q n_in above is_split h =
      elim (cases_Bool (m n)) [
        | inl done ↦ done
        | inr whole ↦
            let high = leaf_above (depth - n.level) n q (omega (arith, n_in.level)) n_in whole
            (turned kind n q h) in
            let low = leaf_below q.level q high.leaf refl is_split
            (turned kind q high.leaf high.shares) in
            absurd (omega (
              arith,
              close high.leaf low.leaf high.is low.is low.shares,
              high.above,
              low.below,
            ))
      ]

-- in a balanced map a node is split that shares a segment with a split node of the level below
pub segment_splits : (depth : ℕ) (m : LevelMap) → IsBalanced depth m → (n low : Node)
    → IsNode depth n → n.level ≡ low.level + 1 → m low ≡ true → ShareSegment n low → m n ≡ true
segment_splits depth m balanced n low n_in above is_split h =
    balance_splits segment depth m balanced.octree
    (λ a b a_leaf b_leaf s. balanced.close a b a_leaf b_leaf (to_segment a b s))
    n low n_in above is_split (of_segment n low h)

-- in a map balanced across faces a node is split that shares a face with a split node of the level below
pub face_splits : (depth : ℕ) (m : LevelMap) → IsFaceBalanced depth m → (n low : Node)
    → IsNode depth n → n.level ≡ low.level + 1 → m low ≡ true → ShareFace n low → m n ≡ true
face_splits depth m balanced n low n_in above is_split h =
    balance_splits face depth m balanced.octree
    (λ a b a_leaf b_leaf s. balanced.close a b a_leaf b_leaf (to_face a b s))
    n low n_in above is_split (of_face n low h)
