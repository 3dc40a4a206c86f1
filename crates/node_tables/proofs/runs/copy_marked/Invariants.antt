-- The words so far are copied, and the others aren't changed; what they were fits.
use Rattle.std.proofs.Common.{◌*◌, ◌^◌, ◌<◌, ℕ, get_or}
use Rattle.node_tables.proofs.RunLemmas.{Copied}
use Rattle.node_tables.proofs.runs.copy_marked.Given as goal

abbrev pub invariant-loop-run : goal.invariant-loop-run
invariant-loop-run l = record {
  copied : Copied l.fn.words l.words l.others (l.run * 64);
  range : (k : ℕ) → get_or l.fn.words k 0 < 2 ^ 64;
}

abbrev pub invariant-loop-i : goal.invariant-loop-i
invariant-loop-i l = Copied l.fn.words l.words l.others l.i
