-- Who has all shares learns what is left.
use Rattle.shared_queues.proofs.RuleLemmas.{balances}
use Rattle.shared_queues.proofs.queue.SharedQueue.balance.Goals as goal

pub learn_as-requires-clause-rule : goal.learn_as-requires-clause-rule
learn_as-requires-clause-rule g c = balances _ _

pub returns-clause-left : goal.returns-clause-left
returns-clause-left g c =
    let learnt = c.learn_as.ensures.rule in (learnt.0, learnt.1 c.requires.shares)
