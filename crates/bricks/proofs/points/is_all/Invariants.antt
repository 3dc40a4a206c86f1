-- It is told whether the samples so far are the one.
use Rattle.std.proofs.Common.{◌≡◌, ◌↔◌, ◌<◌, ℕ, IsTrue, pos, get_or}
use Rattle.bricks.proofs.points.is_all.Given as goal

abbrev pub invariant-loop-k : goal.invariant-loop-k
invariant-loop-k l = IsTrue l.is_all ↔ ((k : ℕ) → k < l.k → get_or l.samples k (pos 0) ≡ l.sample)
