-- To begin keeps the rule.
use Rattle.errands.proofs.TurnLemmas.{starts-at}
use Rattle.errands.proofs.exchange.Exchange.next.Goals as goal

pub pop_as-requires-clause-rule : goal.pop_as-requires-clause-rule
pop_as-requires-clause-rule g c = (
  starts-at _ _ _ c.loop.invariant.1,
  λ items views rule at. tt,
)
