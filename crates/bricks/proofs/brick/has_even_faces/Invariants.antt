-- The finer samples of the first faces are the one.
use Rattle.std.proofs.Common.{◌≡◌, replicate, take}
use Rattle.std.specs.Prelude.{flat_map}
use Rattle.terrain.specs.Blocks.{face_samples}
use Rattle.field_pages.specs.Pages.{sample_at}
use Rattle.bricks.proofs.BrickLemmas.{rim_part}
use Rattle.bricks.proofs.brick.has_even_faces.Given as goal

abbrev pub invariant-loop-face : goal.invariant-loop-face
invariant-loop-face l =
    flat_map (rim_part l.rim (λ _. replicate 1089 l.sample)) (take l.face-index l.face-items)
    ≡ flat_map (rim_part l.rim (face_samples (sample_at l.version) l.leaf))
    (take l.face-index l.face-items)
