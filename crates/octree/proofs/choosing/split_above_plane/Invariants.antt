-- The nodes of the rows so far are split.
use Rattle.std.proofs.Common.{◌≡◌, ◌<◌}
use Rattle.octree.specs.Growing.{Gains, IsNeeded}
use Rattle.octree.proofs.choosing.split_above_plane.Given as goal

abbrev pub invariant-loop-j : goal.invariant-loop-j
invariant-loop-j l =
    Gains (λ n. IsNeeded l.fn.levels l.level n × (n.k ≡ l.k) × (n.j < l.j)) l.fn.levels l.levels
