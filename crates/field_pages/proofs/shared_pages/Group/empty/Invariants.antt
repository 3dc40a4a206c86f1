-- The pages so far have the greatest sample at every point, and there is room for the others.
use Rattle.std.proofs.Common.{◌≡◌, ◌≤◌, ◌<◌, ℕ, [], get_or, length, vec_capacity}
use Rattle.lattice.specs.declared.point.Point.{Point}
use Rattle.terrain.specs.declared.brush.TheConstants.{MAX_SAMPLE}
use Rattle.field_pages.specs.declared.shared_pages.TheConstants.{GROUP}
use Rattle.field_pages.specs.Places.{page_at}
use Rattle.field_pages.proofs.shared_pages.Group.empty.Given as goal

abbrev pub invariant-loop : goal.invariant-loop
invariant-loop l = record {
  long : length l.pages.items ≡ l.counter;
  room : GROUP ≤ vec_capacity l.pages;
  each : (n : ℕ) (p : Point) → n < l.counter → page_at (get_or l.pages.items n []) p ≡ MAX_SAMPLE;
}
