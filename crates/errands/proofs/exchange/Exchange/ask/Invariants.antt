-- Nothing is asked yet.
use Rattle.std.proofs.Common.{◌≡◌, None}
use Rattle.errands.specs.Ends.{HasAsked}
use Rattle.errands.specs.declared.message.Message.TheVariants.{Ask}
use Rattle.errands.proofs.exchange.Exchange.ask.Given as goal

abbrev pub invariant-loop : goal.invariant-loop
invariant-loop g l = record {
  asker : HasAsked l.self None l.asker;
  left : l.left ≡ Ask l.fn.ask;
}
