-- The bits of the parts so far are there twice.
use Rattle.octree.proofs.RowBitLemmas.{IsDoubled}
use Rattle.octree.proofs.rows.doubled.Given as goal

abbrev pub invariant-loop-part : goal.invariant-loop-part
invariant-loop-part l = IsDoubled l.row l.part l.pairs
