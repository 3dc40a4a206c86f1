-- The last forms, whose commands have no members.
use Rattle.std.proofs.Common.{ap, sym}
use Rattle.serde_json.specs.View.{members_view}
use Rattle.camera_script.specs.Reading.{form_command}
use Rattle.camera_script.proofs.form.Form.command.Goals as goal

pub returns-in-Undo : goal.returns-in-Undo
unfolding form_command
returns-in-Undo c =
    ap (λ form. form_command c.args.settings.now.depth form
    (members_view c.args.object.now.entries)) (sym c.in-Undo.is)

pub returns-in-Stats : goal.returns-in-Stats
unfolding form_command
returns-in-Stats c =
    ap (λ form. form_command c.args.settings.now.depth form
    (members_view c.args.object.now.entries)) (sym c.in-Stats.is)
