-- The definitions compute to these values.
use Rattle.std.proofs.Common.{refl}
use Rattle.lattice.specs.Lists.{joined}
use Rattle.terrain.specs.Levels.{is_split_at, viewpoints}
use Rattle.terrain_examples.proofs.levels.splits_across_an_edge.Goals as goal

pub returns : goal.returns
unfolding joined is_split_at viewpoints
returns c = record {
  root = refl;
  wanted = refl;
  wanted_below = refl;
  not_wanted = refl;
  not_wanted_above = refl;
  at_the_camera = refl;
  across_x = refl;
  across_y =
      refl;
  across_the_edge = refl;
  above = refl;
  above_x = refl;
  above_y = refl;
  above_the_edge =
      refl;
  low = refl;
  low_x = refl;
  low_y = refl;
  low_both = refl;
  low_above = refl;
  low_far =
      refl;
}
