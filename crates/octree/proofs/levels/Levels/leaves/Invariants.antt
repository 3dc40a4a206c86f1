-- The leaves of the levels so far are listed.
use Rattle.std.proofs.Common.{◌≡◌, filter}
use Rattle.lattice.specs.Lists.{joined}
use Rattle.lattice.specs.Node.{level_nodes}
use Rattle.terrain.specs.Levels.{is_leaf}
use Rattle.octree.specs.SplitBits.{split_at}
use Rattle.octree.proofs.levels.Levels.leaves.Given as goal

abbrev pub invariant-loop-level : goal.invariant-loop-level
invariant-loop-level l = l.list.items ≡ filter (is_leaf l.self.depth (split_at l.self))
    (joined l.level (level_nodes l.self.depth))
