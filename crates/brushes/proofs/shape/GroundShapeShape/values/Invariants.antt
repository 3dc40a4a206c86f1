-- The values before a place are that of the height.
use Rattle.std.proofs.Common.{◌≡◌, ◌<◌, ℕ, get_or}
use Rattle.terrain.specs.declared.brush.TheConstants.{MAX_SAMPLE}
use Rattle.brushes.proofs.shape.GroundShapeShape.values.Given as goal

-- the values so far are the one of the height
abbrev pub invariant-loop-value : goal.invariant-loop-value
invariant-loop-value l = (t : ℕ) → t < l.value-index → get_or l.values t MAX_SAMPLE ≡ l.here
