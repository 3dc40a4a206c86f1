-- The tiles before are copied.
use Rattle.std.proofs.Common.{◌+◌, ◌-◌, ◌≤◌}
use Rattle.field_pages.specs.Pages.{sample_at}
use Rattle.bricks.specs.Tiles.{FillsTile, fine_sample}
use Rattle.bricks.proofs.faces.fill_band.Given as goal

abbrev pub invariant-loop-u : goal.invariant-loop-u
invariant-loop-u l = record {
  few : l.u ≤ 33;
  filled : FillsTile (fine_sample (sample_at l.version) l.fn.leaf l.fn.face) l.v (l.v + l.lines)
      0 l.u l.initial.samples l.samples;
}

abbrev pub decreases-loop-u : goal.decreases-loop-u
decreases-loop-u l = 33 - l.u
