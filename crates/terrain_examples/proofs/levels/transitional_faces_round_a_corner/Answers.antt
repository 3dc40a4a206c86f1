-- The definitions compute to these values.
use Rattle.std.proofs.Common.{refl}
use Rattle.lattice.specs.Lists.{joined}
use Rattle.terrain.specs.Levels.{is_split_at, viewpoints}
use Rattle.terrain_examples.proofs.levels.transitional_faces_round_a_corner.Goals as goal

pub returns : goal.returns
unfolding joined is_split_at viewpoints
returns c = record {
  along_x = refl;
  along_x_high = refl;
  along_x_y = refl;
  along_y = refl;
  along_y_high = refl;
  along_z = refl;
  along_z_high = refl;
  across_an_edge = refl;
}
