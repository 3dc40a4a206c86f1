-- The nodes so far are wanted, and in the set.
use Rattle.std.proofs.Common.{◌≡◌, take}
use Rattle.std.specs.Prelude.{◌||◌, if◌then◌else◌}
use Rattle.lattice.specs.declared.node.Node.{Node}
use Rattle.lattice.specs.Node.{is_among}
use Rattle.node_tables.specs.NodeBits.{has}
use Rattle.mesh_board.specs.LeafStates.{state_at, wanted}
use Rattle.mesh_board.proofs.board.want_all.Given as goal

abbrev pub invariant-loop-leaf : goal.invariant-loop-leaf
invariant-loop-leaf l = record {
  depth : l.leaves.depth ≡ l.fn.leaves.depth;
  touched_depth : l.touched.depth ≡ l.fn.touched.depth;
  states : (n : Node) → state_at l.leaves n
      ≡ (if is_among (take l.leaf-index l.nodes) n then wanted else state_at l.fn.leaves n);
  touched : (n : Node) → has l.touched n
      ≡ (has l.fn.touched n || is_among (take l.leaf-index l.nodes) n);
}
