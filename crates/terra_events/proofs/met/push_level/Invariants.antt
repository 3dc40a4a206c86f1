-- The planes of the level so far are looked at.
use Rattle.std.proofs.Common.{◌≡◌, ◌++◌, filter}
use Rattle.lattice.specs.Lists.{joined}
use Rattle.octree.specs.SplitBits.{split_at}
use Rattle.terra_events.specs.Met.{is_met, plane_nodes}
use Rattle.terra_events.proofs.met.push_level.Given as goal

abbrev pub invariant-loop-k : goal.invariant-loop-k
invariant-loop-k l =
    l.list.items ≡ l.fn.list.items ++ filter (is_met l.levels.depth (split_at l.levels) l.fn.region)
    (joined l.k (plane_nodes l.levels.depth l.level))
