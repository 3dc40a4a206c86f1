-- The first parent has no row before its children.
use Rattle.std.proofs.Common.{◌*◌, ◌+◌, ◌-◌}
use Rattle.octree.proofs.AboveLemmas.{among-row, outer-both, outer-first}
use Rattle.octree.proofs.above.outer_rows.Goals as goal

pub returns-then-j-eq0-clause-each : goal.returns-then-j-eq0-clause-each
returns-then-j-eq0-clause-each c =
    let levels = c.args.below.now.levels in
    let level = c.args.below.now.level in
    let j = c.args.j in
    outer-first levels level c.args.k j c.row-behind.result c.if-j-eq0.true
    (among-row levels level c.args.k (2 * j + 2) c.row-behind.result c.row-behind.ensures.each)

pub returns-clause-each : goal.returns-clause-each
returns-clause-each c =
    let levels = c.args.below.now.levels in
    let level = c.args.below.now.level in
    let j = c.args.j in
    outer-both levels level c.args.k j c.row.result c.row-behind.result c.if-j-eq0.false
    (among-row levels level c.args.k (2 * j - 1) c.row.result c.row.ensures.each)
    (among-row levels level c.args.k (2 * j + 2) c.row-behind.result c.row-behind.ensures.each)
