-- The definitions compute to these values.
use Rattle.std.proofs.Common.{refl}
use Rattle.lattice.specs.Lists.{joined}
use Rattle.terrain.specs.Levels.{is_split_at, viewpoints}
use Rattle.terrain_examples.proofs.levels.rims_of_two_cameras.Goals as goal

pub returns : goal.returns
unfolding joined is_split_at viewpoints
returns c = record {
  along_x = refl;
  along_x_after = refl;
  along_y = refl;
  along_y_after = refl;
  along_z = refl;
  along_z_after = refl;
  along_xy = refl;
  along_xy_after = refl;
  along_xyz =
      refl;
  lowest = refl;
}
