-- The definitions compute to these values.
use Rattle.std.proofs.Common.{refl}
use Rattle.lattice.specs.Lists.{joined}
use Rattle.terrain.specs.Levels.{is_split_at, viewpoints}
use Rattle.terrain_examples.proofs.levels.leaves_of_two_views.Goals as goal

pub returns : goal.returns
unfolding joined is_split_at viewpoints
returns c = record {
  both = refl;
  wanted = refl;
  wanted_too = refl;
  not_wanted = refl;
  one = refl;
  left = refl;
  stayed = refl;
  none = refl;
  back = refl;
}
