-- The laws of nodes and of leaves as statements with names, for the law's own clause and for the proofs that rest on
-- it.
-- Source: this project's rule.
use Rattle.std.specs.Prelude.{◌≡◌, ℕ, ◌+◌, ◌↔◌, ◌||◌, IsTrue, Contains, List, [], ◌∷◌, ◌++◌}
use Rattle.lattice.specs.declared.node.Node.{Node}
use Rattle.lattice.specs.Node.{IsNode, is_among, is_same_node}
use Rattle.terrain.specs.Levels.{IsBalanced, IsLeaf, LevelMap, ShareSegment, is_leaf, leaves}

-- ---- nodes

-- the test of whether two nodes are the same agrees with the fact
abbrev pub SameNodesAreTested : Type 0
SameNodesAreTested = (a b : Node) → IsTrue (is_same_node a b) ↔ (a ≡ b)

-- the test of whether a node is among others agrees with the fact
abbrev pub AmongIsContained : Type 0
AmongIsContained = (nodes : List Node) (n : Node) → IsTrue (is_among nodes n) ↔ Contains nodes n

-- one node more makes no difference but for itself
abbrev pub OneNodeMore : Type 0
OneNodeMore = (nodes : List Node) (m n : Node)
    → is_among (nodes ++ m ∷ []) n ≡ (is_among nodes n || is_same_node m n)

-- ---- level maps

-- a balanced level map splits each node that shares a segment with a split node of the level below
abbrev pub SplitBesideSplit : Type 0
SplitBesideSplit = (depth : ℕ) (m : LevelMap) → IsBalanced depth m → (n low : Node) → IsNode depth n
    → n.level ≡ low.level + 1 → IsTrue (m low) → ShareSegment n low → IsTrue (m n)

-- ---- leaves

-- the test of a leaf agrees with the fact
abbrev pub LeavesAreTested : Type 0
LeavesAreTested = (depth : ℕ) (m : LevelMap) (n : Node)
    → IsTrue (is_leaf depth m n) ↔ IsLeaf depth m n

-- the list of leaves has each leaf and no other node
abbrev pub LeavesAreListed : Type 0
LeavesAreListed = (depth : ℕ) (m : LevelMap) (n : Node)
    → IsLeaf depth m n ↔ Contains (leaves depth m) n
