-- The steps stay at or below the root, and come nearer to it.
use Rattle.std.proofs.Common.{◌*◌, ◌-◌, ◌≤◌}
use Rattle.brushes.proofs.ball.root_from.Given as goal

-- it is at most the root
abbrev pub invariant-loop-root : goal.invariant-loop-root
invariant-loop-root l = l.root * l.root ≤ l.n

abbrev pub decreases-loop-root : goal.decreases-loop-root
decreases-loop-root l = l.n - l.root
