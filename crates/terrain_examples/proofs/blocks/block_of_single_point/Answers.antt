-- The definitions compute to these values.
use Rattle.std.proofs.Common.{refl}
use Rattle.terrain.specs.Curves.{next, steps, orbit, loops_of}
use Rattle.lattice.specs.Lists.{joined}
use Rattle.terrain.specs.Brushes.{floor_root}
use Rattle.terrain.specs.Levels.{is_split_at, viewpoints}
use Rattle.terrain.specs.Cells.{triangles_of}
use Rattle.terrain.specs.Blocks.{shift, place_on, over_cells, over_squares, block}
use Rattle.terrain_examples.proofs.blocks.block_of_single_point.Goals as goal

pub returns : goal.returns
unfolding next steps orbit loops_of joined floor_root is_split_at viewpoints triangles_of shift
    place_on over_cells over_squares block
returns c = refl
