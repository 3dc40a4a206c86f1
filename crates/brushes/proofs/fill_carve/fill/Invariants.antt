-- The samples before a place are made, and the others are left.
use Rattle.std.proofs.Common.{◌≡◌, ◌<◌, ◌≤◌, ℕ, get_or}
use Rattle.std.specs.Int.{int_min}
use Rattle.terrain.specs.declared.brush.TheConstants.{MAX_SAMPLE}
use Rattle.brushes.proofs.fill_carve.fill.Given as goal

-- the samples so far are made, and the others are left
abbrev pub invariant-loop-t : goal.invariant-loop-t
invariant-loop-t l = record {
  made : (t : ℕ) → t < l.t → get_or l.row t MAX_SAMPLE
      ≡ int_min (get_or l.initial.row t MAX_SAMPLE) (get_or l.values t MAX_SAMPLE);
  left : (t : ℕ) → l.t ≤ t → get_or l.row t MAX_SAMPLE ≡ get_or l.initial.row t MAX_SAMPLE;
}
