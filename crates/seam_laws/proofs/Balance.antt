-- In a level map that is balanced across faces each node beside a split one lies in a split node, or is the root.
use Rattle.std.proofs.Common.{◌≡◌, ℕ, true, ◌⊎◌, inl, inr, arith}
use Rattle.std.proofs.lemmas.Bool.{cases_lt}
use Rattle.lattice.specs.declared.node.Node.{Node}
use Rattle.lattice.specs.Node.{IsNode, parent}
use Rattle.lattice.proofs.FamilyLemmas.{IsNode-parent}
use Rattle.terrain.specs.Levels.{LevelMap, IsBalanced, ShareSegment}
use Rattle.level_laws.specs.Balance.{ShareFace, IsFaceBalanced}
use Rattle.level_laws.proofs.ShareLemmas.{ShareFace-parent, ShareFace-turned}
use Rattle.level_laws.proofs.SplitLemmas.{face_splits}

-- a node beside a split node of its own level lies in a split node, or is the root
pub held-beside : (depth : ℕ) (m : LevelMap) → IsFaceBalanced depth m → (a b : Node) → m a ≡ true
    → IsNode depth b → b.level ≡ a.level → ShareFace a b → (b.level ≡ depth) ⊎ (m (parent b) ≡ true)
held-beside depth m balanced a b is_split b_in level shares =
    elim (cases_lt b.level depth) [
      | inl below ↦
          inr (face_splits depth m balanced (parent b) a
          (IsNode-parent depth b b_in below) (omega arith) is_split
          (ShareFace-turned a (parent b) (ShareFace-parent a b shares)))
      | inr top ↦ inl (omega (arith, b_in.level))
    ]

-- ---- balance across faces and edges is balance across faces

-- nodes that share a face share a segment
share-segment : (a b : Node) → ShareFace a b → ShareSegment a b
share-segment a b h = record {
  z = h.z;
  y = h.y;
  x = h.x;
  length = elim h.area [
    | inl o ↦ inl o.0
    | inr o ↦ elim o [
      | inl p ↦ inl p.0
      | inr p ↦ inr (inl p.0)
    ]
  ];
}

-- balance across faces and edges is balance across faces
pub face-balanced : (depth : ℕ) (m : LevelMap) → IsBalanced depth m → IsFaceBalanced depth m
face-balanced depth m balanced = record {
  octree = balanced.octree;
  close = λ a b a_leaf b_leaf h. balanced.close a b a_leaf b_leaf (share-segment a b h);
}
