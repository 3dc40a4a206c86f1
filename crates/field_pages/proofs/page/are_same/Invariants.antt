-- The parts so far are the same.
use Rattle.std.proofs.Common.{◌≡◌, ◌*◌, ◌<◌, ℕ, get_or}
use Rattle.terrain.specs.declared.brush.TheConstants.{MAX_SAMPLE}
use Rattle.field_pages.specs.declared.page.TheConstants.{PART}
use Rattle.field_pages.proofs.page.are_same.Given as goal

-- the samples of the parts before one are the same
abbrev pub invariant-loop-layer : goal.invariant-loop-layer
invariant-loop-layer l = (k : ℕ) → k < l.layer * PART →
    get_or l.a k MAX_SAMPLE ≡ get_or l.b k MAX_SAMPLE
