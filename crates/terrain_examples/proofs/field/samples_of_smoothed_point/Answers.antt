-- The definitions compute to these values.
use Rattle.std.proofs.Common.{refl}
use Rattle.terrain.specs.Brushes.{floor_root}
use Rattle.terrain_examples.proofs.field.samples_of_smoothed_point.Goals as goal

pub returns : goal.returns
unfolding floor_root
returns c = record { smoothed = refl; left_alone = refl }
