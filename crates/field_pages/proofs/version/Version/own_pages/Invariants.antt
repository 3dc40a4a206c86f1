-- No more pages are counted than are in the layers so far.
use Rattle.std.proofs.Common.{◌*◌, ◌≤◌}
use Rattle.field_pages.proofs.version.Version.own_pages.Given as goal

-- no more pages are counted than are in the layers so far
abbrev pub invariant-loop-place : goal.invariant-loop-place
invariant-loop-place l = l.count ≤ l.place * (l.place-end * l.place-end)
