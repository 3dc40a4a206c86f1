-- The definitions compute to these values.
use Rattle.std.proofs.Common.{refl}
use Rattle.terrain.specs.Brushes.{floor_root}
use Rattle.terrain_examples.proofs.field.samples_of_mixed_edits.Goals as goal

pub returns : goal.returns
unfolding floor_root
returns c = record {
  carved = refl;
  low_corner = refl;
  high_corner = refl;
  beside = refl;
  on_the_ground = refl;
  over_the_ground = refl;
  under_the_ground = refl;
  far = refl;
  above =
      refl;
}
