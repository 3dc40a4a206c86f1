-- To close an account keeps the rule.
use Rattle.shared_queues.proofs.RuleLemmas.{closes}
use Rattle.shared_queues.proofs.queue.SharedQueue.close.Goals as goal

pub absorb-requires-clause-rule : goal.absorb-requires-clause-rule
absorb-requires-clause-rule g c = closes _ _ _ _
