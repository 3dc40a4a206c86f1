-- The parts so far are all the one.
use Rattle.std.proofs.Common.{◌≡◌, map, replicate}
use Rattle.std.specs.Arc.{arc_value}
use Rattle.shared_lists.proofs.shared_list.SharedList.new.Given as goal

-- the parts so far are all the one
abbrev pub invariant-loop : goal.invariant-loop
invariant-loop g l = map arc_value l.parts.items ≡ replicate l.counter (arc_value l.part)
