-- Those of the row so far are appended.
use Rattle.std.proofs.Common.{◌≡◌, [], ◌∷◌, ◌++◌, filter}
use Rattle.lattice.specs.Lists.{joined}
use Rattle.patch_wire.specs.Written.{has_block}
use Rattle.patch_wire.proofs.text.push_row.Given as goal

abbrev pub invariant-loop-i : goal.invariant-loop-i
invariant-loop-i l =
    l.list.items ≡ l.fn.list.items
    ++ filter (has_block l.replica) (joined l.i (λ i. record l.first { i = i } ∷ []))
