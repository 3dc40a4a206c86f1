-- To pop an item keeps the rule.
use Rattle.shared_queues.proofs.RuleLemmas.{pops}
use Rattle.shared_queues.proofs.queue.SharedQueue.pop.Goals as goal

pub pop_as-requires-clause-rule : goal.pop_as-requires-clause-rule
pop_as-requires-clause-rule g c =
    (pops _ _ c.requires.shares, λ items accounts balanced at. tt)
