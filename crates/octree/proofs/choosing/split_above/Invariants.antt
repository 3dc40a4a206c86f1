-- The nodes of the planes so far are split.
use Rattle.std.proofs.Common.{◌<◌}
use Rattle.octree.specs.Growing.{Gains, IsNeeded}
use Rattle.octree.proofs.choosing.split_above.Given as goal

abbrev pub invariant-loop-k : goal.invariant-loop-k
invariant-loop-k l =
    Gains (λ n. IsNeeded l.fn.levels l.level n × (n.k < l.k)) l.fn.levels l.levels
