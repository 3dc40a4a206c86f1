-- Through the look-up of a member.
use Rattle.std.proofs.Common.{ap, ◌∙◌}
use Rattle.std.specs.Prelude.{is_some}
use Rattle.serde_json.specs.View.{view}
use Rattle.camera_script.proofs.MembersLemmas.{is_some-option_map}
use Rattle.camera_script.proofs.members.has.Goals as goal

pub returns : goal.returns
returns c =
    c.is_some.ensures ∙ is_some-option_map (λ value. view value.now) c.member.result
    ∙ ap is_some c.member.ensures
