-- Arguments that ask for a text are not those of a run.
use Rattle.std.proofs.Common.{refl}
use Rattle.arguments.specs.Request.{texts}
use Rattle.terra_run.proofs.RequestLemmas.{help-no_mirror, help-no_run, version-no_mirror, version-no_run}
use Rattle.terra_run.proofs.shell.program.Goals as goal

pub returns-then-is_only-clause-exact : goal.returns-then-is_only-clause-exact
returns-then-is_only-clause-exact g c = λ input told below form asked calm calm'.
    absurd (help-no_run (texts c.args.arguments.now) form (c.if-is_only.ensures.0 refl) asked)

pub returns-then-is_only-clause-limit : goal.returns-then-is_only-clause-limit
returns-then-is_only-clause-limit g c = λ input told above form asked calm calm'.
    absurd (help-no_run (texts c.args.arguments.now) form (c.if-is_only.ensures.0 refl) asked)

pub returns-then-is_only-clause-mirror : goal.returns-then-is_only-clause-mirror
returns-then-is_only-clause-mirror g c = λ asked.
    absurd (help-no_mirror (texts c.args.arguments.now) (c.if-is_only.ensures.0 refl) asked)

pub returns-then-is_only-2-clause-exact : goal.returns-then-is_only-2-clause-exact
returns-then-is_only-2-clause-exact g c = λ input told below form asked calm calm'.
    absurd (version-no_run (texts c.args.arguments.now) form (c.if-is_only-2.ensures.0 refl)
    asked)

pub returns-then-is_only-2-clause-limit : goal.returns-then-is_only-2-clause-limit
returns-then-is_only-2-clause-limit g c = λ input told above form asked calm calm'.
    absurd (version-no_run (texts c.args.arguments.now) form (c.if-is_only-2.ensures.0 refl)
    asked)

pub returns-then-is_only-2-clause-mirror : goal.returns-then-is_only-2-clause-mirror
returns-then-is_only-2-clause-mirror g c = λ asked.
    absurd (version-no_mirror (texts c.args.arguments.now) (c.if-is_only-2.ensures.0 refl) asked)
