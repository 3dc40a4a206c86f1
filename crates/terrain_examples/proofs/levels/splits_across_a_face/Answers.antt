-- The definitions compute to these values.
use Rattle.std.proofs.Common.{refl}
use Rattle.lattice.specs.Lists.{joined}
use Rattle.terrain.specs.Levels.{is_split_at, viewpoints}
use Rattle.terrain_examples.proofs.levels.splits_across_a_face.Goals as goal

pub returns : goal.returns
unfolding joined is_split_at viewpoints
returns c = record {
  root = refl;
  at_the_camera = refl;
  not_wanted = refl;
  across_x = refl;
  across_y = refl;
  across_the_edge = refl;
  above = refl;
  above_x = refl;
  low = refl;
  low_x =
      refl;
  low_y = refl;
  low_far = refl;
}
