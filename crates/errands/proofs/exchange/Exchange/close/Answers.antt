-- To close keeps the rule.
use Rattle.errands.proofs.TurnLemmas.{closes-at}
use Rattle.errands.proofs.exchange.Exchange.close.Goals as goal

pub push_as-requires-clause-rule : goal.push_as-requires-clause-rule
push_as-requires-clause-rule g c = (
  closes-at _ _ _ _ _ c.loop.invariant.asker.1 c.loop.invariant.left,
  λ items views rule at. tt,
)
