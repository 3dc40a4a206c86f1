-- The reply isn't left yet.
use Rattle.std.proofs.Common.{◌≡◌}
use Rattle.crossbeam_queue.specs.Passes.{IsPassOf, view}
use Rattle.errands.specs.declared.message.Message.TheVariants.{Reply}
use Rattle.errands.proofs.exchange.Exchange.reply.Given as goal

abbrev pub invariant-loop : goal.invariant-loop
invariant-loop g l = record {
  doer : IsPassOf l.self.ruled l.doer.pass;
  same : view l.doer.pass ≡ view l.fn.doer.pass;
  left : l.left ≡ Reply l.fn.reply;
}
