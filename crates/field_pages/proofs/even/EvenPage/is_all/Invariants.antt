-- The rows so far are those of the page.
use Rattle.std.proofs.Common.{◌≡◌, ◌*◌, ◌<◌, ℕ, get_or}
use Rattle.terrain.specs.declared.brush.TheConstants.{MAX_SAMPLE}
use Rattle.field_pages.specs.declared.page.TheConstants.{SIDE}
use Rattle.field_pages.specs.Even.{even_at}
use Rattle.field_pages.proofs.even.EvenPage.is_all.Given as goal

-- the samples of the rows before one are the page's
abbrev pub invariant-loop-row : goal.invariant-loop-row
invariant-loop-row l = (k : ℕ) → k < SIDE * l.row →
    get_or l.samples k MAX_SAMPLE ≡ even_at l.self.extent l.self.sample k
