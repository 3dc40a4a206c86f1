-- The definitions compute to these values.
use Rattle.std.proofs.Common.{refl}
use Rattle.terrain.specs.Curves.{next, steps, orbit, loops_of}
use Rattle.terrain_examples.proofs.loops.regular_loops.Goals as goal

pub returns : goal.returns
unfolding next steps orbit loops_of
returns c = record {
  all_empty = refl;
  all_solid = refl;
  corner_0 = refl;
  corner_1 = refl;
  corner_2 = refl;
  corner_3 = refl;
  corner_4 = refl;
  corner_5 = refl;
  corner_6 = refl;
  corner_7 =
      refl;
  ambiguous_square = refl;
  band = refl;
  four_corners = refl;
  three_edges = refl;
  two_bands =
      refl;
  two_bars = refl;
  four_other_corners = refl;
  two_empty_corners = refl;
  one_empty_corner =
      refl;
}
