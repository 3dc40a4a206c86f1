-- The lines before are those of the face.
use Rattle.std.proofs.Common.{◌-◌, ◌≤◌}
use Rattle.field_pages.specs.Pages.{sample_at}
use Rattle.bricks.specs.Tiles.{FillsTile, fine_sample}
use Rattle.bricks.proofs.brick.fill_face.Given as goal

abbrev pub invariant-loop-v : goal.invariant-loop-v
invariant-loop-v l = record {
  few : l.v ≤ 33;
  filled : FillsTile (fine_sample (sample_at l.version) l.leaf l.face) 0 l.v 0 33
      l.initial.samples l.samples;
}

abbrev pub decreases-loop-v : goal.decreases-loop-v
decreases-loop-v l = 33 - l.v
