-- Balance across faces alone, which is enough for the law that there is no crack.
-- Source: this project's rule.
use Rattle.std.specs.Prelude.{ℕ, ◌+◌, ◌≤◌, ◌⊎◌}
use Rattle.lattice.specs.declared.node.Node.{Node}
use Rattle.lattice.specs.Node.{low_corner, high_corner}
use Rattle.terrain.specs.Levels.{LevelMap, IsLeaf, IsOctree, Touch, Overlap}

-- two nodes' ranges on an axis have a length in common
abbrev pub OverlapZ : Node → Node → Type 0
OverlapZ a b = Overlap (low_corner a).z (high_corner a).z (low_corner b).z (high_corner b).z

abbrev pub OverlapY : Node → Node → Type 0
OverlapY a b = Overlap (low_corner a).y (high_corner a).y (low_corner b).y (high_corner b).y

abbrev pub OverlapX : Node → Node → Type 0
OverlapX a b = Overlap (low_corner a).x (high_corner a).x (low_corner b).x (high_corner b).x

-- two nodes' closed cubes have a part of some area in common, a face's part: their ranges touch on all axes and
-- overlap on two
pub record ShareFace (a b : Node) : Type 0 where
  pub z : Touch (low_corner a).z (high_corner a).z (low_corner b).z (high_corner b).z
  pub y : Touch (low_corner a).y (high_corner a).y (low_corner b).y (high_corner b).y
  pub x : Touch (low_corner a).x (high_corner a).x (low_corner b).x (high_corner b).x
  pub area :
      (OverlapZ a b × OverlapY a b) ⊎ ((OverlapZ a b × OverlapX a b)
      ⊎ (OverlapY a b × OverlapX a b))

-- an octree of which no two leaves that share part of a face differ by more than one level
pub record IsFaceBalanced (depth : ℕ) (m : LevelMap) : Type 0 where
  pub octree : IsOctree depth m
  pub close : (a b : Node)
      → IsLeaf depth m a → IsLeaf depth m b → ShareFace a b → a.level ≤ b.level + 1
