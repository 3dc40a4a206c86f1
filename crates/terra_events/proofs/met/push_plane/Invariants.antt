-- The rows of the plane so far are looked at.
use Rattle.std.proofs.Common.{◌≡◌, ◌++◌, filter}
use Rattle.lattice.specs.Lists.{joined}
use Rattle.octree.specs.SplitBits.{split_at}
use Rattle.terra_events.specs.Met.{is_met, row_nodes}
use Rattle.terra_events.proofs.met.push_plane.Given as goal

abbrev pub invariant-loop-j : goal.invariant-loop-j
invariant-loop-j l =
    l.list.items ≡ l.fn.list.items ++ filter (is_met l.levels.depth (split_at l.levels) l.fn.region)
    (joined l.j (row_nodes l.levels.depth l.level l.k))
