-- What the arguments that are left give after those that were read is what all of them give.
use Rattle.std.proofs.Common.{◌↔◌, length}
use Rattle.arguments.specs.Options.{AreAllowed, Gives, nothing_given}
use Rattle.arguments.specs.Request.{texts}
use Rattle.arguments.specs.declared.options.Given.{Given}
use Rattle.arguments.proofs.options.given_in.Given as goal

abbrev pub invariant-loop-rest : goal.invariant-loop-rest
invariant-loop-rest l =
    AreAllowed l.given
    × ((given : Given) → Gives nothing_given (texts l.arguments) given
    ↔ Gives l.given (texts l.rest) given)

abbrev pub decreases-loop-rest : goal.decreases-loop-rest
decreases-loop-rest l = length l.rest
