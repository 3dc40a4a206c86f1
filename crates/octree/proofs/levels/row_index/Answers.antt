-- The rows of the lower levels, and those of its own before it.
use Rattle.std.proofs.Common.{◌+◌, ◌*◌}
use Rattle.octree.specs.SplitBits.{row_of}
use Rattle.octree.proofs.levels.row_index.Goals as goal

pub returns : goal.returns
unfolding row_of
returns c = λ t. c.rows_below.ensures t + (c.args.node.k * c.nodes_across.ensures t + c.args.node.j)
