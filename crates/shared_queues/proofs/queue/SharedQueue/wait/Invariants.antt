-- Nothing is popped yet.
use Rattle.std.proofs.Common.{◌≡◌}
use Rattle.shared_queues.specs.Queues.{IsAccountOf, entries}
use Rattle.shared_queues.proofs.queue.SharedQueue.wait.Given as goal

abbrev pub invariant-loop : goal.invariant-loop
invariant-loop g l = record {
  account : IsAccountOf l.self l.account;
  same : entries l.account ≡ entries l.fn.account;
}
