-- A part more each time, until nothing is left.
use Rattle.std.proofs.Common.{arith}
use Rattle.octree.proofs.RowBitLemmas.{doubled-all, doubled-more, doubled-none, doubled-rest}
use Rattle.octree.proofs.rows.doubled.Goals as goal

pub loop-part-init : goal.loop-part-init
loop-part-init c = doubled-none c.args.row

pub loop-part-preserved : goal.loop-part-preserved
loop-part-preserved c =
    doubled-more c.args.row c.loop-part.part c.loop-part.pairs c.doubled_part.result (omega arith)
    c.doubled_part.ensures.fits c.doubled_part.ensures.each c.loop-part.invariant

pub returns-then-rest-eq0 : goal.returns-then-rest-eq0
returns-then-rest-eq0 c =
    doubled-rest c.args.row c.loop-part.part c.loop-part.pairs c.if-rest-eq0.true
    c.loop-part.invariant

pub returns : goal.returns
returns c =
    doubled-all c.args.row c.loop-part.part c.loop-part.pairs c.requires (omega arith)
    c.loop-part.invariant
