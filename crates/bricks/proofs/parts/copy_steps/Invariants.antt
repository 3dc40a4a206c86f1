-- The samples before a place are copied.
use Rattle.std.proofs.Common.{◌≡◌, ℕ, ◌*◌, ◌<◌, length, pos, get_or}
use Rattle.bricks.proofs.parts.copy_steps.Given as goal

abbrev pub invariant-loop-place : goal.invariant-loop-place
invariant-loop-place l = record {
  long : length l.samples ≡ length l.initial.samples;
  each : (k : ℕ) → k < l.place → get_or l.samples k (pos 0)
      ≡ get_or l.run (l.step * k) (pos 0);
}
