-- The values before a place are the box's.
use Rattle.std.proofs.Common.{◌≡◌, ◌+◌, ◌/◌, ◌<◌, ◌-ℤ◌, ◌*ℤ◌, pos, ℕ, length, get_or}
use Rattle.std.specs.Int.{int_max}
use Rattle.field_pages.specs.declared.page.TheConstants.{SIDE}
use Rattle.terrain.specs.declared.brush.TheConstants.{MAX_SAMPLE, SUBCELLS}
use Rattle.terrain.specs.Samples.{clamped_sample}
use Rattle.brushes.proofs.shape.row_values.Given as goal

-- the values so far are the box's
abbrev pub invariant-loop-t : goal.invariant-loop-t
invariant-loop-t l = record {
  long : length l.value-items ≡ SIDE;
  made : (t : ℕ) → t < l.t →
      get_or l.value-items t MAX_SAMPLE ≡ clamped_sample ((pos SUBCELLS *ℤ int_max
      (int_max (pos l.low -ℤ pos (l.x + t)) (pos (l.x + t) -ℤ pos l.high)) l.across)
      -ℤ pos (SUBCELLS / 2));
}
