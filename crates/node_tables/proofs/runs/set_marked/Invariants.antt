-- The bits of the words so far are changed, and the others aren't.
use Rattle.std.proofs.Common.{◌*◌}
use Rattle.std.specs.Prelude.{◌||◌}
use Rattle.node_tables.proofs.WordLemmas.{Changed}
use Rattle.node_tables.proofs.runs.set_marked.Given as goal

abbrev pub invariant-loop-run : goal.invariant-loop-run
invariant-loop-run l = Changed (λ a b. a || b) l.fn.words l.words l.others (l.run * 64)

abbrev pub invariant-loop-i : goal.invariant-loop-i
invariant-loop-i l = Changed (λ a b. a || b) l.fn.words l.words l.others l.i
