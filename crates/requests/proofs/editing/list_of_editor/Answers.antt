-- The events of one command more, and all of them are lawful.
use Rattle.std.proofs.Common.{◌≡◌, All, ap, arith, subst, sym, take_all, ◌∙◌}
use Rattle.script_play.specs.Script.{events_of}
use Rattle.requests.proofs.EditingLemmas.{events_of-next, lawful-events}
use Rattle.terrain.specs.History.{IsLawfulEvent}
use Rattle.requests.proofs.editing.list_of_editor.Goals as goal

pub loop-command-preserved : goal.loop-command-preserved
loop-command-preserved c =
    events_of-next c.deref-command-items.result.now c.loop-command.command-index _ _ _
    c.loop-command-test.true c.loop-command.invariant c.in_ok-push_event.ensures

pub returns-clause-lawful : goal.returns-clause-lawful
returns-clause-lawful c =
    let commands = c.in_ok-commands.commands.items in
    let list : c.loop-command.events.items ≡ events_of commands =
    c.loop-command.invariant
    ∙ ap events_of (take_all c.loop-command.command-index c.deref-command-items.result.now
    (omega arith)
    ∙ c.deref-command-items.ensures.value) in
    subst (All (IsLawfulEvent c.args.asked.depth)) (sym list)
    (lawful-events c.args.asked.depth commands c.in_ok-commands.ensures.lawful)
