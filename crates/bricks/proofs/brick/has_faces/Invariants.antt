-- The samples so far are those of the first faces.
use Rattle.std.proofs.Common.{◌≡◌, length, take}
use Rattle.std.specs.Prelude.{flat_map}
use Rattle.terrain.specs.Blocks.{face_samples}
use Rattle.field_pages.specs.Pages.{sample_at}
use Rattle.bricks.proofs.BrickLemmas.{rim_part}
use Rattle.bricks.proofs.brick.has_faces.Given as goal

abbrev pub invariant-loop-face : goal.invariant-loop-face
invariant-loop-face l = record {
  at : l.at ≡ length (flat_map (rim_part l.rim (face_samples (sample_at l.version) l.leaf))
      (take l.face-index l.face-items));
  same : take l.at l.samples ≡ flat_map (rim_part l.rim (face_samples (sample_at l.version) l.leaf))
      (take l.face-index l.face-items);
}
