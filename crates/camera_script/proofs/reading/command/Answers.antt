-- What is read is lawful.
use Rattle.std.proofs.Common.{sym, ◌∙◌}
use Rattle.serde_json.specs.View.{members_view}
use Rattle.camera_script.specs.Commands.{IsAllowedCommand}
use Rattle.camera_script.proofs.LawfulLemmas.{command_in-lawful, command_reading-lawful, IfOk-from}
use Rattle.camera_script.proofs.reading.command.Goals as goal

pub returns-clause-lawful : goal.returns-clause-lawful
returns-clause-lawful c =
    let depth = c.args.settings.now.depth in
    IfOk-from c.command_of.result (IsAllowedCommand depth)
    (λ command is. command_in-lawful depth (members_view c.in_ok-object.field-0.entries) command
    (sym c.command_of.ensures ∙ is))

pub returns-in-Some-clause-lawful : goal.returns-in-Some-clause-lawful
returns-in-Some-clause-lawful c =
    let depth = c.args.settings.now.depth in
    command_reading-lawful depth c.args.line.now c.in-Some.command (c.in-Some.ensures.reading depth)
