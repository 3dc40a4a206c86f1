-- A version keeps it.
use Rattle.std.proofs.Common.{subst}
use Rattle.field_pages.specs.Pages.{IsVersion}
use Rattle.field_pages.proofs.IsVersionLemmas.{HoldsSamples-sound}
use Rattle.field_pages.proofs.version.Version.sample.Goals as goal

pub returns-clause-samples : goal.returns-clause-samples
returns-clause-samples c =
    HoldsSamples-sound c.args.self.now (subst IsVersion c.self.view_is c.self.invariant)
