-- The worlds are so deep by now.
use Rattle.std.proofs.Common.{◌≡◌}
use Rattle.crossbeam_queue.specs.Passes.{IsPassOf, view}
use Rattle.editors.specs.Shown.{first_of}
use Rattle.editors.proofs.mail.Mail.deepen.Given as goal

abbrev pub invariant-loop-depth : goal.invariant-loop-depth
invariant-loop-depth l = record {
  pass_of : IsPassOf l.self.queue l.pass;
  shown : view l.pass ≡ first_of l.depth;
}
