-- Nothing is being done yet.
use Rattle.std.proofs.Common.{None}
use Rattle.errands.specs.Ends.{IsDoing}
use Rattle.errands.proofs.exchange.Exchange.next.Given as goal

abbrev pub invariant-loop : goal.invariant-loop
invariant-loop g l = IsDoing l.self None l.doer
