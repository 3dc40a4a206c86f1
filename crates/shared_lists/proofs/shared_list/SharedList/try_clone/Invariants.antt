-- The parts so far are the list's first ones.
use Rattle.std.proofs.Common.{◌≡◌, map, take}
use Rattle.std.specs.Arc.{arc_value}
use Rattle.shared_lists.proofs.shared_list.SharedList.try_clone.Given as goal

-- the parts so far are the list's first ones
abbrev pub invariant-loop-part : goal.invariant-loop-part
invariant-loop-part g l = map arc_value l.parts.items ≡ map arc_value
    (take l.part-index l.part-items)
