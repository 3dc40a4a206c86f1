-- A part more each time, until nothing is left.
use Rattle.std.proofs.Common.{arith}
use Rattle.octree.proofs.HalfLemmas.{halved-all, halved-more, halved-none, halved-rest}
use Rattle.octree.proofs.rows.halved.Goals as goal

pub loop-part-init : goal.loop-part-init
loop-part-init c = halved-none c.args.row

pub loop-part-preserved : goal.loop-part-preserved
loop-part-preserved c =
    halved-more c.args.row c.loop-part.part c.loop-part.halves c.halved_part.result (omega arith)
    c.halved_part.ensures.fits c.halved_part.ensures.each c.loop-part.invariant

pub returns-then-rest-eq0 : goal.returns-then-rest-eq0
returns-then-rest-eq0 c =
    halved-rest c.args.row c.loop-part.part c.loop-part.halves c.if-rest-eq0.true
    c.loop-part.invariant

pub returns : goal.returns
returns c =
    halved-all c.args.row c.loop-part.part c.loop-part.halves c.ranges.row.fits (omega arith)
    c.loop-part.invariant
