-- So many looks so far, and the last one was at this frame.
use Rattle.std.proofs.Common.{◌≡◌, [], ◌⊎◌}
use Rattle.watchers.specs.Looks.{IsClean}
use Rattle.watchers.proofs.watching.look_on.Given as goal

abbrev pub invariant-loop : goal.invariant-loop
invariant-loop g l =
    (l.counts.looks ≡ l.counter) × IsClean l.counts
    × ((l.last ≡ []) ⊎ (l.last ≡ l.frame.events))
