-- The samples before a place are smoothed.
use Rattle.std.proofs.Common.{◌≡◌, ◌+◌, ◌*◌, ◌/◌, ◌<◌, ◌≤◌, ℕ, pos, get_or, length}
use Rattle.lattice.specs.Settings.{world_side}
use Rattle.field_pages.specs.declared.page.TheConstants.{SIDE}
use Rattle.brushes.specs.Around.{IsSmoothed}
use Rattle.brushes.proofs.smoothing.Around.smoothed_row.Given as goal

-- the samples so far are smoothed, where the world has their points
abbrev pub invariant-loop-t : goal.invariant-loop-t
invariant-loop-t l = record {
  whole : length l.sample-items ≡ SIDE;
  made : (t : ℕ) → t < l.t → SIDE * (l.fn.p.x / SIDE) + t ≤ world_side l.version.depth
      → IsSmoothed l.version (record l.fn.p { x = SIDE * (l.fn.p.x / SIDE) + t })
      (get_or l.sample-items t (pos 0));
}
