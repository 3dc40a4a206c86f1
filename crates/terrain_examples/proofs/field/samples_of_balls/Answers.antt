-- The definitions compute to these values.
use Rattle.std.proofs.Common.{refl}
use Rattle.terrain.specs.Brushes.{floor_root}
use Rattle.terrain_examples.proofs.field.samples_of_balls.Goals as goal

pub returns : goal.returns
unfolding floor_root
returns c = record {
  first_centre = refl;
  second_centre = refl;
  filled_between = refl;
  where_they_touch = refl;
  centre = refl;
  on_it = refl;
  above_it = refl;
  inside_it =
      refl;
  just_inside_it = refl;
  outside_it = refl;
}
