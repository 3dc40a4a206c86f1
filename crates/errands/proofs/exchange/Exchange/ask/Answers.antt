-- To ask keeps the rule.
use Rattle.errands.proofs.TurnLemmas.{asks-at}
use Rattle.errands.proofs.exchange.Exchange.ask.Goals as goal

pub push_as-requires-clause-rule : goal.push_as-requires-clause-rule
push_as-requires-clause-rule g c = (
  asks-at _ _ _ _ _ _ c.loop.invariant.asker.1 c.loop.invariant.left,
  λ items views rule at. tt,
)
