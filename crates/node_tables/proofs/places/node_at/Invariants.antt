-- The nodes of the levels so far stand before the place.
use Rattle.std.proofs.Common.{◌≡◌, ◌+◌, length}
use Rattle.lattice.specs.Lists.{joined}
use Rattle.lattice.specs.Node.{level_nodes}
use Rattle.node_tables.proofs.places.node_at.Given as goal

abbrev pub invariant-loop-level : goal.invariant-loop-level
invariant-loop-level l =
    l.place ≡ length (joined l.level (level_nodes l.depth)) + l.before
