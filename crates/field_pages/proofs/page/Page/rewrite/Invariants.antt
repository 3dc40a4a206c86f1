-- The points before a row have what the rule gives.
use Rattle.field_pages.specs.Changes.{Makes}
use Rattle.field_pages.proofs.ChangesBefore.{ChangesBefore, order}
use Rattle.field_pages.proofs.page.Page.rewrite.Given as goal

-- the points before the loops' place have what the rule gives
abbrev pub invariant-loop-y : goal.invariant-loop-y
invariant-loop-y g l =
    ChangesBefore (record { lo = l.lo; hi = l.hi }) (Makes (g.R.Rule.gives l.rule)) l.corner
    (order (record { z = l.z; y = l.y; x = l.corner.x })) l.self l.samples.items

abbrev pub invariant-loop-z : goal.invariant-loop-z
invariant-loop-z g l =
    ChangesBefore (record { lo = l.lo; hi = l.hi }) (Makes (g.R.Rule.gives l.rule)) l.corner
    (order (record { z = l.z; y = l.corner.y; x = l.corner.x })) l.self l.samples.items
