-- The levels so far are grown.
use Rattle.octree.specs.Growing.{IsGrown}
use Rattle.octree.proofs.choosing.choose.Given as goal

abbrev pub invariant-loop-level : goal.invariant-loop-level
invariant-loop-level l = IsGrown l.settings l.cameras l.level l.levels
