-- All events so far are lawful.
use Rattle.std.proofs.Common.{All}
use Rattle.terrain.specs.History.{IsLawfulEvent}
use Rattle.script_examples.proofs.limit.list.Given as goal

abbrev pub invariant-loop-number : goal.invariant-loop-number
invariant-loop-number l = All (IsLawfulEvent 0) l.list.items
