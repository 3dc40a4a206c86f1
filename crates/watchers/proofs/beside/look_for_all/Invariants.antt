-- What the looks in the place of those that came so far counted.
use Rattle.std.proofs.Common.{◌≡◌, ◌*◌}
use Rattle.watchers.specs.Looks.{IsClean}
use Rattle.watchers.proofs.beside.look_for_all.Given as goal

abbrev pub invariant-loop-one : goal.invariant-loop-one
invariant-loop-one g l = (l.all.looks ≡ l.one-index * l.looks) × IsClean l.all
