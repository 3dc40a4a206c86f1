-- The values before a place are the row's.
use Rattle.std.proofs.Common.{◌≡◌, ◌<◌, ℕ, get_or}
use Rattle.terrain.specs.declared.brush.TheConstants.{MAX_SAMPLE}
use Rattle.brushes.proofs.shape.copy.Given as goal

-- the values so far are copied
abbrev pub invariant-loop-t : goal.invariant-loop-t
invariant-loop-t l = (t : ℕ) → t < l.t → get_or l.values t MAX_SAMPLE ≡ get_or l.row t MAX_SAMPLE
