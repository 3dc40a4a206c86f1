-- The groups so far are all the one.
use Rattle.std.proofs.Common.{◌≡◌, map, replicate}
use Rattle.std.specs.Arc.{arc_value}
use Rattle.field_pages.proofs.shared_pages.SharedPages.empty.Given as goal

abbrev pub invariant-loop : goal.invariant-loop
invariant-loop l = map arc_value l.groups.items ≡ replicate l.counter (arc_value l.group)
