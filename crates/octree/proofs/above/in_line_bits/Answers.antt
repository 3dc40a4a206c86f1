-- The rows of the children widened, and the others as they are.
use Rattle.octree.proofs.AboveLemmas.{in_line-row}
use Rattle.octree.proofs.above.in_line_bits.Goals as goal

pub returns : goal.returns
returns c =
    in_line-row c.args.below.now.levels c.args.below.now.level c.args.k c.args.j
    c.children_rows.result c.widened.result c.outer_rows.result c.children_rows.ensures.each
    c.widened.ensures c.outer_rows.ensures.each
