-- Nothing is sent yet.
use Rattle.std.proofs.Common.{◌≡◌}
use Rattle.crossbeam_queue.specs.Passes.{IsPassOf, view}
use Rattle.editors.proofs.sending.put_blocked.Given as goal

abbrev pub invariant-loop : goal.invariant-loop
invariant-loop g l = record {
  pass_of : IsPassOf l.mail.queue l.pass;
  same : view l.pass ≡ view l.fn.pass;
}
