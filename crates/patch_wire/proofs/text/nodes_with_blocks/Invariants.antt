-- Those of the levels so far are listed.
use Rattle.std.proofs.Common.{◌≡◌, filter}
use Rattle.lattice.specs.Lists.{joined}
use Rattle.lattice.specs.Node.{level_nodes}
use Rattle.patch_wire.specs.Written.{has_block}
use Rattle.patch_wire.proofs.text.nodes_with_blocks.Given as goal

abbrev pub invariant-loop-level : goal.invariant-loop-level
invariant-loop-level l =
    l.list.items ≡ filter (has_block l.replica) (joined l.level (level_nodes l.depth))
