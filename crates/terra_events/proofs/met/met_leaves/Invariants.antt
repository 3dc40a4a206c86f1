-- The levels so far are looked at.
use Rattle.std.proofs.Common.{◌≡◌, filter}
use Rattle.lattice.specs.Lists.{joined}
use Rattle.lattice.specs.Node.{level_nodes}
use Rattle.octree.specs.SplitBits.{split_at}
use Rattle.terra_events.specs.Met.{is_met}
use Rattle.terra_events.proofs.met.met_leaves.Given as goal

abbrev pub invariant-loop-level : goal.invariant-loop-level
invariant-loop-level l =
    l.list.items ≡ filter (is_met l.levels.depth (split_at l.levels) l.fn.region)
    (joined l.level (level_nodes l.levels.depth))
