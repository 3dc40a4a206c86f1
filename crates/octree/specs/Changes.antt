-- Which leaves a change of levels changes, and the nodes that tell it: those that one of two level maps splits and the
-- other doesn't.
-- Source: this project's rule.
use Rattle.std.specs.Bool.{beq}
use Rattle.std.specs.Prelude.{◌≡◌, ℕ, ◌+◌, ◌≤◌, Bool, ◌&&◌, ◌||◌, ◌==◌, not, IsTrue, List, ◌++◌, filter}
use Rattle.lattice.specs.declared.node.Node.{Node}
use Rattle.lattice.specs.Node.{parent}
use Rattle.terrain.specs.Levels.{LevelMap, is_leaf, rim}
use Rattle.octree.specs.declared.changed.LeafChange.{LeafChange}
use Rattle.octree.specs.SplitBits.{SplitBits, split_at}

-- ---- leaves

-- whether a leaf of a level map wasn't a leaf of the one before it, or has another rim
abbrev pub is_renewed : ℕ → LevelMap → LevelMap → Node → Bool
is_renewed depth before after n =
    not (is_leaf depth before n) || not (rim depth before n == rim depth after n)

-- whether a node is such a leaf
abbrev pub is_new_leaf : SplitBits → SplitBits → Node → Bool
is_new_leaf before after n =
    is_leaf after.depth (split_at after) n
    && is_renewed after.depth (split_at before) (split_at after) n

-- whether a node is a leaf of one level map and not of the one after it
abbrev pub is_lost : SplitBits → SplitBits → Node → Bool
is_lost before after n =
    is_leaf before.depth (split_at before) n
    && not (is_leaf after.depth (split_at after) n)

-- of some nodes the changed leaves and the lost ones are appended
pub record AddsChanges (before after : SplitBits) (ns : List Node) (old new : LeafChange) : Type 0
  where
    pub changed : new.changed.items ≡ old.changed.items ++ filter (is_new_leaf before after) ns
    pub lost : new.lost.items ≡ old.lost.items ++ filter (is_lost before after) ns

-- ---- nodes that tell it

-- whether one of two level maps splits a node and the other doesn't
abbrev pub is_switched : SplitBits → SplitBits → Node → Bool
is_switched before after n = not (beq (split_at before n) (split_at after n))

-- a node is another one or next to it: of its level, and at most one away on each axis
pub record IsAround (by n : Node) : Type 0 where
  pub level : by.level ≡ n.level
  pub k_low : by.k ≤ n.k + 1
  pub k_high : n.k ≤ by.k + 1
  pub j_low : by.j ≤ n.j + 1
  pub j_high : n.j ≤ by.j + 1
  pub i_low : by.i ≤ n.i + 1
  pub i_high : n.i ≤ by.i + 1

-- one of the nodes around a node is switched
pub record IsSwitchedAround (before after : SplitBits) (n : Node) : Type 0 where
  pub by : Node
  pub switched : IsTrue (is_switched before after by)
  pub around : IsAround by n

-- one of a level is that has this index on y, at most one away from others on z and x
pub record IsSwitchedBeside (before after : SplitBits) (level k j i : ℕ) : Type 0 where
  pub by : Node
  pub switched : IsTrue (is_switched before after by)
  pub same_level : by.level ≡ level
  pub same_j : by.j ≡ j
  pub k_low : by.k ≤ k + 1
  pub k_high : k ≤ by.k + 1
  pub i_low : by.i ≤ i + 1
  pub i_high : i ≤ by.i + 1

-- around the nodes of a plane none is switched, and the parent of each is split in both maps or in none
pub record IsQuietPlane (before after : SplitBits) (level k : ℕ) : Type 0 where
  pub around : (j i : ℕ)
      → IsSwitchedAround before after (record { level = level; k = k; j = j; i = i }) → ⊥
  pub parents : (j i : ℕ)
      → split_at before (parent (record { level = level; k = k; j = j; i = i }))
      ≡ split_at after (parent (record { level = level; k = k; j = j; i = i }))
