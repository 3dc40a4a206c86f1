-- The helper does nothing between rounds.
use Rattle.std.proofs.Common.{None}
use Rattle.std.specs.Arc.{arc_value}
use Rattle.errands.specs.Ends.{IsDoing}
use Rattle.mesh_pool.proofs.helping.help.Given as goal

abbrev pub invariant-loop : goal.invariant-loop
invariant-loop g l = IsDoing (arc_value l.exchange) None l.doer
