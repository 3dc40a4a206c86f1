-- The definitions compute to these values.
use Rattle.std.proofs.Common.{refl}
use Rattle.terrain.specs.Brushes.{floor_root}
use Rattle.terrain_examples.proofs.field.samples_of_smoothed_edits.Goals as goal

pub returns : goal.returns
unfolding floor_root
returns c = record {
  low_corner = refl;
  other_corner = refl;
  last_point = refl;
  after_it = refl;
  carved = refl;
  rounded_down = refl;
  left_alone = refl;
}
