-- What is promised of the level map of viewpoints.
-- Source: neighbouring blocks differ by at most one level, after Lengyel (2010); the rest is this project's rule.
use Rattle.std.specs.Prelude.{◌≡◌, IsTrue, List}
use Rattle.lattice.specs.declared.point.Point.{Point}
use Rattle.lattice.specs.declared.node.Node.{Node}
use Rattle.lattice.specs.declared.settings.Settings.{Settings}
use Rattle.lattice.specs.Node.{IsNode}
use Rattle.terrain.specs.Levels.{LevelMap, is_wanted, split, IsBalanced}
use Rattle.octree.specs.SplitBits.{SplitBits, split_at}
use Rattle.octree.specs.WantedNodes.{WantSame}

-- a level map splits each node of the world that is wanted split
abbrev pub SplitsWanted : Settings → List Point → LevelMap → Type 0
SplitsWanted settings points m =
    (n : Node) → IsNode settings.depth n → IsTrue (is_wanted settings points n) → IsTrue (m n)

-- what a level map splits is split by each balanced one that splits the wanted nodes
abbrev pub IsLeast : Settings → List Point → LevelMap → Type 0
IsLeast settings points m =
    (other : LevelMap) → IsBalanced settings.depth other → SplitsWanted settings points other
    → (n : Node) → IsTrue (m n) → IsTrue (other n)

-- a level map by bits is that of viewpoints at these points
pub record IsMapOf (settings : Settings) (points : List Point) (levels : SplitBits) : Type 0 where
  pub depth : levels.depth ≡ settings.depth
  pub each : (n : Node) → split_at levels n ≡ split settings points n
  pub balanced : IsBalanced settings.depth (split_at levels)

-- viewpoints that want the same nodes split have the same level map
abbrev pub SameWantsSplitSame : Type 0
SameWantsSplitSame = (settings : Settings) (a b : List Point) → WantSame settings a b
    → (n : Node) → split settings a n ≡ split settings b n
