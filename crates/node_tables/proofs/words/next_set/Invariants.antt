-- No bit is set from the given place up to the words so far.
use Rattle.node_tables.proofs.WordLemmas.{NoneBefore}
use Rattle.node_tables.proofs.words.next_set.Given as goal

abbrev pub invariant-loop-index : goal.invariant-loop-index
invariant-loop-index l = NoneBefore l.words l.from l.index
