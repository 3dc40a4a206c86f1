-- Nothing is taken yet.
use Rattle.std.proofs.Common.{◌≡◌}
use Rattle.editors.specs.Mail.{IsClerkOf, taken_by}
use Rattle.editors.proofs.taking.wait_blocked.Given as goal

abbrev pub invariant-loop : goal.invariant-loop
invariant-loop g l = record {
  clerk_of : IsClerkOf l.mail l.clerk;
  same : taken_by l.clerk ≡ taken_by l.fn.clerk;
  editors : l.clerk.editors ≡ l.fn.clerk.editors;
}
