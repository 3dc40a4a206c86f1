-- To reply keeps the rule.
use Rattle.std.proofs.Common.{◌∙◌}
use Rattle.errands.proofs.TurnLemmas.{replies-at}
use Rattle.errands.proofs.exchange.Exchange.reply.Goals as goal

pub push_as-requires-clause-rule : goal.push_as-requires-clause-rule
push_as-requires-clause-rule g c = (
  replies-at _ _ _ _ _ c.requires.0 _ (c.loop.invariant.same ∙ c.requires.1.1)
      c.loop.invariant.left c.requires.2,
  λ items views rule at. tt,
)
