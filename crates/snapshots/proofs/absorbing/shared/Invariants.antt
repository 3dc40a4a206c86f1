-- The list so far has the first blocks.
use Rattle.std.proofs.Common.{◌≡◌, map, take}
use Rattle.std.specs.Arc.{arc_value}
use Rattle.snapshots.proofs.absorbing.shared.Given as goal

-- the list so far has the first blocks
abbrev pub invariant-loop-done : goal.invariant-loop-done
invariant-loop-done l =
    map arc_value l.list.items ≡ map arc_value (take l.done-index l.blocks)
