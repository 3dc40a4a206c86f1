-- No more pages are counted than were looked at.
use Rattle.std.proofs.Common.{◌≤◌}
use Rattle.field_pages.proofs.layer.Layer.own_pages.Given as goal

-- no more pages are counted than were looked at
abbrev pub invariant-loop-number : goal.invariant-loop-number
invariant-loop-number l = l.count ≤ l.number
