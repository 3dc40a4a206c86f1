-- The samples before are there.
use Rattle.std.proofs.Common.{◌≡◌, ℕ, ◌<◌, length, pos, get_or}
use Rattle.lattice.specs.Steps.{point_at}
use Rattle.field_pages.specs.Pages.{sample_at}
use Rattle.bricks.proofs.points.line_of.Given as goal

abbrev pub invariant-loop-x : goal.invariant-loop-x
invariant-loop-x l = record {
  long : length l.line ≡ 17;
  each : (k : ℕ) → k < l.x → get_or l.line k (pos 0)
      ≡ sample_at l.version (point_at l.leaf.level l.leaf (record { z = l.z; y = l.y; x = k }));
}
