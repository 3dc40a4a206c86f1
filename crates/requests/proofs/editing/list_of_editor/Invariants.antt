-- The events of the commands so far.
use Rattle.std.proofs.Common.{◌≡◌, take}
use Rattle.script_play.specs.Script.{events_of}
use Rattle.requests.proofs.editing.list_of_editor.Given as goal

abbrev pub invariant-loop-command : goal.invariant-loop-command
invariant-loop-command l =
    l.events.items ≡ events_of (take l.command-index l.command-items)
