-- What was appended so far and the nodes of the bits that are left are those of all bits.
use Rattle.std.proofs.Common.{◌≡◌, ℕ, ◌≤◌, ◌++◌, true, false, filter}
use Rattle.octree.specs.LeafLists.{first_of_row}
use Rattle.octree.specs.SplitBits.{row_bit}
use Rattle.octree.proofs.rows.push_nodes.Given as goal

abbrev pub invariant-loop-rest : goal.invariant-loop-rest
invariant-loop-rest l = record {
  among : (i : ℕ) → row_bit l.rest i ≡ true → row_bit l.row i ≡ true;
  all : (across : ℕ) → ((i : ℕ) → across ≤ i → row_bit l.row i ≡ false)
      → l.list.items ++ filter (λ n. row_bit l.rest n.i) (first_of_row l.level l.k l.j across)
      ≡ l.fn.list.items ++ filter (λ n. row_bit l.row n.i) (first_of_row l.level l.k l.j across);
}

abbrev pub decreases-loop-rest : goal.decreases-loop-rest
decreases-loop-rest l = l.rest
