-- The samples so far are those of the row.
use Rattle.std.proofs.Common.{◌≡◌, ℕ, ◌+◌, ◌*◌, ◌<◌, pos, get_or}
use Rattle.bricks.proofs.line.is_run.Given as goal

abbrev pub invariant-loop-place : goal.invariant-loop-place
invariant-loop-place l = (k : ℕ) → k < l.place
    → get_or l.ours k (pos 0) ≡ get_or l.row (l.from + l.stride * k) (pos 0)
