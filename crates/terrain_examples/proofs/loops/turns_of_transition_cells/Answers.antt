-- The definitions compute to these values.
use Rattle.std.proofs.Common.{refl}
use Rattle.terrain.specs.Curves.{next, steps, orbit, loops_of}
use Rattle.terrain_examples.proofs.loops.turns_of_transition_cells.Goals as goal

pub returns : goal.returns
unfolding next steps orbit loops_of
returns c = record {
  straight_row = refl;
  reversed_row = refl;
  straight_corner_and_side = refl;
  reversed_corner_and_side = refl;
  straight_middles = refl;
  reversed_middles =
      refl;
  straight_diagonal = refl;
  reversed_diagonal = refl;
  on_y_low = refl;
  on_y_high =
      refl;
  on_z_low = refl;
  on_z_high = refl;
}
