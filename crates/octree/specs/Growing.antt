-- A level map in the making, level by level from below, and the nodes that balance needs split.
-- Source: this project's rule.
use Rattle.std.specs.Prelude.{◌≡◌, ℕ, ◌+◌, ◌*◌, ◌/◌, ◌<◌, ◌≤◌, ◌⊎◌, ◌↔◌, IsTrue, List}
use Rattle.lattice.specs.declared.point.Point.{Point}
use Rattle.lattice.specs.declared.node.Node.{Node}
use Rattle.lattice.specs.declared.settings.Settings.{Settings}
use Rattle.lattice.specs.Node.{IsNode}
use Rattle.terrain.specs.Levels.{split}
use Rattle.octree.specs.SplitBits.{SplitBits, row_bit, split_at}

-- ---- above split nodes

-- an index of one level is at most one away from the two whose half is an index of the level above
abbrev pub IsNextTo : ℕ → ℕ → Type 0
IsNextTo high low = (2 * high ≤ low + 1) × (low ≤ 2 * high + 2)

-- a node of the level above another has a child that is at most one away from that one on each axis, and in line with
-- it on some axis
pub record IsAbove (low high : Node) : Type 0 where
  pub level : high.level ≡ low.level + 1
  pub k : IsNextTo high.k low.k
  pub j : IsNextTo high.j low.j
  pub i : IsNextTo high.i low.i
  pub in_line : (low.k / 2 ≡ high.k) ⊎ ((low.j / 2 ≡ high.j) ⊎ (low.i / 2 ≡ high.i))

-- a node is above one that a level map splits
pub record IsAboveSplit (levels : SplitBits) (high : Node) : Type 0 where
  pub low : Node
  pub is_split : IsTrue (split_at levels low)
  pub above : IsAbove low high

-- such a node of the world, of a level
pub record IsNeeded (levels : SplitBits) (level : ℕ) (n : Node) : Type 0 where
  pub node : IsNode levels.depth n
  pub at : n.level ≡ level
  pub above : IsAboveSplit levels n

-- ---- split nodes of some rows of a plane

-- a level map splits a node of a level in a plane, with this index on x, and some index on y
pub record IsSplitAmong (levels : SplitBits) (level k : ℕ) (J : ℕ → Type 0) (i : ℕ) : Type 0 where
  pub low : Node
  pub is_split : IsTrue (split_at levels low)
  pub at : low.level ≡ level
  pub same_k : low.k ≡ k
  pub among_j : J low.j
  pub same_i : low.i ≡ i

-- it splits one in rows next to that of a parent, at most one away on x
pub record IsSplitNear (levels : SplitBits) (level k j i : ℕ) : Type 0 where
  pub low : Node
  pub is_split : IsTrue (split_at levels low)
  pub at : low.level ≡ level
  pub same_k : low.k ≡ k
  pub near_j : IsNextTo j low.j
  pub i_low : low.i ≤ i + 1
  pub i_high : i ≤ low.i + 1

-- such a one that is a child's row, or has the same index on x
pub record IsSplitInLine (levels : SplitBits) (level k j i : ℕ) : Type 0 where
  pub near : IsSplitNear levels level k j i
  pub in_line : (near.low.j / 2 ≡ j) ⊎ (near.low.i ≡ i)

-- ---- steps

-- a node is of a row, and its bit is set in a word
pub record IsInBits (level k j bits : ℕ) (n : Node) : Type 0 where
  pub at : n.level ≡ level
  pub same_k : n.k ≡ k
  pub same_j : n.j ≡ j
  pub set : IsTrue (row_bit bits n.i)

-- a map in the making splits some more nodes
pub record Gains (P : Node → Type 0) (old new : SplitBits) : Type 0 where
  pub depth : new.depth ≡ old.depth
  pub each : (n : Node) → IsTrue (split_at new n) ↔ (IsTrue (split_at old n) ⊎ P n)

-- a map in the making splits the nodes below a level as it is to, and no other
pub record IsGrown (settings : Settings) (points : List Point) (level : ℕ) (levels : SplitBits) :
    Type 0 where
  pub depth : levels.depth ≡ settings.depth
  pub each : (n : Node) → IsTrue (split_at levels n)
      ↔ ((n.level < level) × IsTrue (split settings points n))
