-- The rows so far have the first sample alone at points of the world.
use Rattle.std.proofs.Common.{◌≡◌, ◌*◌, ◌<◌, ℕ, get_or}
use Rattle.terrain.specs.declared.brush.TheConstants.{MAX_SAMPLE}
use Rattle.field_pages.specs.declared.page.TheConstants.{SIDE}
use Rattle.field_pages.specs.Even.{IsWorldPlace}
use Rattle.field_pages.proofs.even.is_even_within.Given as goal

-- the samples of the rows before one are the first one
abbrev pub invariant-loop-row : goal.invariant-loop-row
invariant-loop-row l = (k : ℕ) → k < SIDE * l.row → IsWorldPlace l.extent k →
    get_or l.samples k MAX_SAMPLE ≡ get_or l.samples 0 MAX_SAMPLE
