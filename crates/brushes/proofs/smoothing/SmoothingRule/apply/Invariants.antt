-- The samples before a place are smoothed.
use Rattle.std.proofs.Common.{◌≡◌, ◌<◌, ℕ, get_or}
use Rattle.lattice.specs.declared.point.Axis.TheVariants.{X}
use Rattle.terrain.specs.declared.brush.TheConstants.{MAX_SAMPLE}
use Rattle.terrain.specs.Brushes.{smoothed}
use Rattle.lattice.specs.Point.{moved}
use Rattle.field_pages.specs.Changes.{Makes}
use Rattle.field_pages.specs.Pages.{sample_at}
use Rattle.brushes.proofs.smoothing.SmoothingRule.apply.Given as goal

-- the samples so far are smoothed
abbrev pub invariant-loop-t : goal.invariant-loop-t
invariant-loop-t l = (t : ℕ) → t < l.t
    → Makes (λ p old new. new ≡ smoothed l.self.version.now.depth (sample_at l.self.version.now) p)
    (moved X t l.fn.from) (get_or l.initial.row t MAX_SAMPLE) (get_or l.row t MAX_SAMPLE)
