-- To collect keeps the rule, and what is collected answers what was asked.
use Rattle.std.proofs.Common.{◌∙◌}
use Rattle.errands.proofs.TurnLemmas.{collects-at}
use Rattle.errands.proofs.exchange.Exchange.collect.Goals as goal

pub pop_as-requires-clause-rule : goal.pop_as-requires-clause-rule
pop_as-requires-clause-rule g c = (
  collects-at _ _ _ _ (c.loop.invariant.same ∙ c.requires.1),
  λ items views rule at. tt,
)
