-- All four rows together, widened.
use Rattle.octree.proofs.AboveLemmas.{near-row}
use Rattle.octree.proofs.above.near_bits.Goals as goal

pub returns : goal.returns
returns c =
    near-row c.args.below.now.levels c.args.below.now.level c.args.k c.args.j
    c.children_rows.result c.outer_rows.result c.widened.result c.children_rows.ensures.each
    c.outer_rows.ensures.each c.widened.ensures
