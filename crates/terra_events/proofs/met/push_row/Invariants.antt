-- The nodes of the row so far are looked at.
use Rattle.std.proofs.Common.{◌≡◌, ◌++◌, filter}
use Rattle.lattice.specs.Lists.{joined}
use Rattle.octree.specs.SplitBits.{split_at}
use Rattle.terra_events.specs.Met.{is_met}
use Rattle.terra_events.proofs.MetLemmas.{row_item}
use Rattle.terra_events.proofs.met.push_row.Given as goal

abbrev pub invariant-loop-i : goal.invariant-loop-i
invariant-loop-i l =
    l.list.items ≡ l.fn.list.items
    ++ filter (is_met l.levels.depth (split_at l.levels) l.fn.region)
    (joined l.i (row_item l.level l.k l.j))
