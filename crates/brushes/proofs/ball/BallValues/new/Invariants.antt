-- The values so far are the ball's.
use Rattle.std.proofs.Common.{◌≡◌, ◌+◌, ◌*◌, ◌<◌, ◌≤◌, ℕ, length, get_or}
use Rattle.terrain.specs.declared.brush.TheConstants.{MAX_SAMPLE, SUBCELLS}
use Rattle.terrain.specs.Samples.{clamped_sample}
use Rattle.brushes.specs.Values.{value_at_square}
use Rattle.brushes.proofs.ball.BallValues.new.Given as goal

-- the values so far are the ball's, and the root is at most the next one
abbrev pub invariant-loop-apart : goal.invariant-loop-apart
invariant-loop-apart l = record {
  long : l.first + length l.by_square.items ≡ l.apart;
  root : l.root * l.root ≤ SUBCELLS * SUBCELLS * l.apart;
  value : (k : ℕ) → k < length l.by_square.items →
      get_or l.by_square.items k MAX_SAMPLE ≡ clamped_sample (value_at_square l.r (l.first + k));
}
