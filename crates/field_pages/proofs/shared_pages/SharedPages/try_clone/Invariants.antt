-- The groups so far are the first ones.
use Rattle.std.proofs.Common.{◌≡◌, map, take}
use Rattle.std.specs.Arc.{arc_value}
use Rattle.field_pages.proofs.shared_pages.SharedPages.try_clone.Given as goal

abbrev pub invariant-loop-group : goal.invariant-loop-group
invariant-loop-group l = map arc_value l.groups.items ≡ map arc_value
    (take l.group-index l.group-items)
