-- No bit is set from the given place up to the words so far.
use Rattle.std.proofs.Common.{◌-◌, ◌*◌, ◌≤◌, length}
use Rattle.node_tables.proofs.WordLemmas.{NoneBefore}
use Rattle.node_tables.proofs.runs.next_marked.Given as goal

abbrev pub invariant-loop-index : goal.invariant-loop-index
invariant-loop-index l = record {
  from : l.from ≤ l.next * 64;
  most : l.next ≤ length l.words;
  none : NoneBefore l.words l.from l.next;
}

abbrev pub decreases-loop-index : goal.decreases-loop-index
decreases-loop-index l = length l.words - l.next
