-- The lines of the owners so far.
use Rattle.std.proofs.Common.{◌≡◌, ◌++◌, take}
use Rattle.requests.specs.Edited.{owner_lines}
use Rattle.requests.proofs.editing.push_owners.Given as goal

abbrev pub invariant-loop-owner : goal.invariant-loop-owner
invariant-loop-owner l = l.out.items ≡ l.fn.out.items ++ owner_lines (take l.owner-index l.owners)
