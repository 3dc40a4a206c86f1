-- The definitions compute to these values.
use Rattle.std.proofs.Common.{refl}
use Rattle.terrain.specs.Curves.{next, steps, orbit, loops_of}
use Rattle.terrain_examples.proofs.loops.transition_loops.Goals as goal

pub returns : goal.returns
unfolding next steps orbit loops_of
returns c = record {
  all_empty = refl;
  all_solid = refl;
  middle_of_a_side = refl;
  a_row = refl;
  middle_of_the_far_side = refl;
}
