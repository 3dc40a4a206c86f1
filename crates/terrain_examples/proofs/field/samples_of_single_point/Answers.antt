-- The definitions compute to these values.
use Rattle.std.proofs.Common.{refl}
use Rattle.terrain.specs.Brushes.{floor_root}
use Rattle.terrain_examples.proofs.field.samples_of_single_point.Goals as goal

pub returns : goal.returns
unfolding floor_root
returns c = record {
  at_it = refl;
  beside_it = refl;
  across_its_corner = refl;
  at_distance_2 = refl;
  at_distance_8 = refl;
  at_the_corner = refl;
  before_it = refl;
}
