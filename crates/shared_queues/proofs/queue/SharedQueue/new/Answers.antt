-- A new queue keeps the rule.
use Rattle.shared_queues.proofs.RuleLemmas.{begins}
use Rattle.shared_queues.proofs.queue.SharedQueue.new.Goals as goal

pub ruled-requires-clause-rule : goal.ruled-requires-clause-rule
ruled-requires-clause-rule g c = begins
