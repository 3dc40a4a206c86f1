-- The samples so far are those of the first faces.
use Rattle.std.proofs.Common.{◌≡◌, ◌++◌, take}
use Rattle.std.specs.Prelude.{All, flat_map}
use Rattle.terrain.specs.Samples.{IsSample}
use Rattle.terrain.specs.Blocks.{face_samples}
use Rattle.field_pages.specs.Pages.{sample_at}
use Rattle.bricks.proofs.BrickLemmas.{rim_part}
use Rattle.bricks.proofs.brick.push_faces.Given as goal

abbrev pub invariant-loop-face : goal.invariant-loop-face
invariant-loop-face l = record {
  added : l.samples.items ≡ l.initial.samples.items
      ++ flat_map (rim_part l.rim (face_samples (sample_at l.version) l.leaf))
      (take l.face-index l.face-items);
  range : All IsSample l.initial.samples.items → All IsSample l.samples.items;
}
