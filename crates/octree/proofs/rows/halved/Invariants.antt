-- There is a bit for each two of the parts so far.
use Rattle.octree.proofs.HalfLemmas.{IsHalved}
use Rattle.octree.proofs.rows.halved.Given as goal

abbrev pub invariant-loop-part : goal.invariant-loop-part
invariant-loop-part l = IsHalved l.row l.part l.halves
