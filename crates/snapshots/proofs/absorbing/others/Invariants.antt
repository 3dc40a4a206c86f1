-- The list so far has those of the first nodes.
use Rattle.std.proofs.Common.{◌≡◌, take}
use Rattle.std.specs.Prelude.{filter, not}
use Rattle.octree.specs.SplitBits.{split_at}
use Rattle.terrain.specs.Levels.{is_leaf}
use Rattle.snapshots.proofs.absorbing.others.Given as goal

-- the list so far has those of the first nodes
abbrev pub invariant-loop-node : goal.invariant-loop-node
invariant-loop-node l =
    l.others.items
    ≡ filter (λ n. not (is_leaf l.levels.depth (split_at l.levels) n)) (take l.node-index l.nodes)
