-- To open an account keeps the rule.
use Rattle.shared_queues.proofs.RuleLemmas.{opens}
use Rattle.shared_queues.proofs.queue.SharedQueue.open.Goals as goal

pub another-requires-clause-rule : goal.another-requires-clause-rule
another-requires-clause-rule g c = opens _ _ c.requires.shares
