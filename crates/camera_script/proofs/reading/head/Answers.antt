-- What is read is allowed.
use Rattle.std.proofs.Common.{sym, ◌∙◌}
use Rattle.serde_json.specs.View.{members_view}
use Rattle.lattice.specs.Settings.{IsSettings}
use Rattle.camera_script.proofs.LawfulLemmas.{head_in-allowed, IfOk-from}
use Rattle.camera_script.proofs.reading.head.Goals as goal

pub returns-clause-allowed : goal.returns-clause-allowed
returns-clause-allowed c =
    IfOk-from c.head_of.result IsSettings
    (λ settings is. head_in-allowed (members_view c.in_ok-object.field-0.entries) settings
    (sym c.head_of.ensures ∙ is))
