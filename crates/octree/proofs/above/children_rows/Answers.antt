-- The two rows together.
use Rattle.std.proofs.Common.{◌*◌, ◌+◌}
use Rattle.octree.proofs.AboveLemmas.{among-row, children-rows}
use Rattle.octree.proofs.above.children_rows.Goals as goal

pub returns-clause-each : goal.returns-clause-each
returns-clause-each c =
    let levels = c.args.below.now.levels in
    let level = c.args.below.now.level in
    let j = c.args.j in
    children-rows levels level c.args.k j c.row.result c.row-2.result
    (among-row levels level c.args.k (2 * j) c.row.result c.row.ensures.each)
    (among-row levels level c.args.k (2 * j + 1) c.row-2.result c.row-2.ensures.each)
