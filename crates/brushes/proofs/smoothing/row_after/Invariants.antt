-- The samples before a place are those of the points behind.
use Rattle.std.proofs.Common.{◌≡◌, ◌+◌, ◌*◌, ◌/◌, ◌<◌, ℕ, pos, get_or, length}
use Rattle.terrain.specs.Samples.{IsSample}
use Rattle.field_pages.specs.Pages.{sample_at}
use Rattle.field_pages.specs.declared.page.TheConstants.{SIDE}
use Rattle.brushes.proofs.smoothing.row_after.Given as goal

-- the samples so far are those of the points behind
abbrev pub invariant-loop-t : goal.invariant-loop-t
invariant-loop-t l = record {
  whole : length l.after ≡ SIDE;
  made : (t : ℕ) → t + 1 < l.t → (get_or l.after t (pos 0)
      ≡ sample_at l.version (record l.fn.p { x = SIDE * (l.fn.p.x / SIDE) + t + 1 }))
      × IsSample (get_or l.after t (pos 0));
}
