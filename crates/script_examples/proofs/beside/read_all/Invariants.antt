-- It is the same clerk.
use Rattle.std.proofs.Common.{◌≡◌}
use Rattle.editors.specs.Mail.{IsClerkOf}
use Rattle.script_examples.proofs.beside.read_all.Given as goal

abbrev pub invariant-loop : goal.invariant-loop
invariant-loop g l = record {
  clerk_of : IsClerkOf l.mail l.clerk;
  same : l.clerk.editors ≡ l.fn.clerk.editors;
}
