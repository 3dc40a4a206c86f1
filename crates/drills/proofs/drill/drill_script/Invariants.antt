-- The commands so far, and those that the state still gives, are the script; all are lawful, and few.
use Rattle.std.proofs.Common.{◌≡◌, ◌≤◌, ◌+◌, ◌*◌, ◌++◌, ◌-◌, All, length}
use Rattle.camera_script.specs.Commands.{IsAllowedCommand}
use Rattle.drills.specs.Drill.{drill, edits_from}
use Rattle.drills.proofs.drill.drill_script.Given as goal

abbrev pub invariant-loop-done : goal.invariant-loop-done
invariant-loop-done l =
    (l.commands.items ++ edits_from l.depth (l.edits - l.done) l.done l.generator.state
    ≡ drill l.seed l.edits l.depth)
    × All (IsAllowedCommand l.depth) l.commands.items
    × (length l.commands.items ≤ 2 * l.done + 1)
