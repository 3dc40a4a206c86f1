-- The parts so far have the one sample alone.
use Rattle.std.proofs.Common.{◌≡◌, ◌*◌, ◌<◌, ℕ, get_or}
use Rattle.terrain.specs.declared.brush.TheConstants.{MAX_SAMPLE}
use Rattle.field_pages.specs.declared.page.TheConstants.{PART}
use Rattle.field_pages.proofs.even.is_all_one.Given as goal

-- the samples of the parts before one are the one
abbrev pub invariant-loop-layer : goal.invariant-loop-layer
invariant-loop-layer l = (k : ℕ) → k < l.layer * PART →
    get_or l.samples k MAX_SAMPLE ≡ l.sample
