-- The planes and rows so far are appended.
use Rattle.std.proofs.Common.{◌≡◌, ◌++◌, filter}
use Rattle.lattice.specs.Lists.{joined}
use Rattle.terrain.specs.Levels.{is_leaf}
use Rattle.octree.specs.SplitBits.{split_at}
use Rattle.octree.proofs.LeafLemmas.{row, plane}
use Rattle.octree.proofs.leaves.push_leaves.Given as goal

abbrev pub invariant-loop-k : goal.invariant-loop-k
invariant-loop-k l =
    l.list.items ≡ l.fn.list.items ++ filter (is_leaf l.levels.depth (split_at l.levels))
    (joined l.k (plane l.levels.depth l.level))

abbrev pub invariant-loop-j : goal.invariant-loop-j
invariant-loop-j l =
    l.list.items ≡ l.fn.list.items
    ++ filter (is_leaf l.levels.depth (split_at l.levels))
    (joined l.k (plane l.levels.depth l.level))
    ++ filter (is_leaf l.levels.depth (split_at l.levels))
    (joined l.j (row l.levels.depth l.level l.k))
