-- The planes and rows so far are appended.
use Rattle.std.proofs.Common.{◌≡◌, ◌++◌, filter}
use Rattle.lattice.specs.Lists.{joined}
use Rattle.octree.proofs.LeafLemmas.{row, plane}
use Rattle.patch_wire.specs.Written.{has_block}
use Rattle.patch_wire.proofs.text.push_level.Given as goal

abbrev pub invariant-loop-k : goal.invariant-loop-k
invariant-loop-k l =
    l.list.items ≡ l.fn.list.items
    ++ filter (has_block l.replica) (joined l.k (plane l.depth l.level))

abbrev pub invariant-loop-j : goal.invariant-loop-j
invariant-loop-j l =
    l.list.items ≡ l.fn.list.items
    ++ filter (has_block l.replica) (joined l.k (plane l.depth l.level))
    ++ filter (has_block l.replica) (joined l.j (row l.depth l.level l.k))
