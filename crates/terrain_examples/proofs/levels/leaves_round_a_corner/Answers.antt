-- The definitions compute to these values.
use Rattle.std.proofs.Common.{refl}
use Rattle.lattice.specs.Lists.{joined}
use Rattle.terrain.specs.Levels.{is_split_at, viewpoints}
use Rattle.terrain_examples.proofs.levels.leaves_round_a_corner.Goals as goal

pub returns : goal.returns
unfolding joined is_split_at viewpoints
returns c = record {
  root = refl;
  corner = refl;
  beside = refl;
  lowest = refl;
  off_the_world = refl;
  leaves = refl;
  no_camera = refl;
}
