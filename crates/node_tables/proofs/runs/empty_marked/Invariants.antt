-- The bits of the words so far are changed, and the others aren't.
use Rattle.std.proofs.Common.{◌*◌, Bool, false}
use Rattle.node_tables.proofs.WordLemmas.{Changed}
use Rattle.node_tables.proofs.runs.empty_marked.Given as goal

abbrev pub invariant-loop-run : goal.invariant-loop-run
invariant-loop-run l =
    Changed (λ (a : Bool) (b : Bool). false) l.fn.words l.words l.fn.words (l.run * 64)

abbrev pub invariant-loop-i : goal.invariant-loop-i
invariant-loop-i l = Changed (λ (a : Bool) (b : Bool). false) l.fn.words l.words l.fn.words l.i
