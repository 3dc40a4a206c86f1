-- Nothing is collected yet.
use Rattle.std.proofs.Common.{◌≡◌}
use Rattle.crossbeam_queue.specs.Passes.{IsPassOf, view}
use Rattle.errands.proofs.exchange.Exchange.collect.Given as goal

abbrev pub invariant-loop : goal.invariant-loop
invariant-loop g l = record {
  asker : IsPassOf l.self.ruled l.asker.pass;
  same : view l.asker.pass ≡ view l.fn.asker.pass;
}
