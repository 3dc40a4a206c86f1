-- The nodes so far are no leaves.
use Rattle.std.proofs.Common.{◌≡◌, take}
use Rattle.std.specs.Prelude.{if◌then◌else◌}
use Rattle.lattice.specs.declared.node.Node.{Node}
use Rattle.lattice.specs.Node.{is_among}
use Rattle.mesh_board.specs.LeafStates.{no_leaf, state_at}
use Rattle.mesh_board.proofs.board.forget_all.Given as goal

abbrev pub invariant-loop-leaf : goal.invariant-loop-leaf
invariant-loop-leaf l = record {
  depth : l.leaves.depth ≡ l.fn.leaves.depth;
  states : (n : Node) → state_at l.leaves n
      ≡ (if is_among (take l.leaf-index l.nodes) n then no_leaf else state_at l.fn.leaves n);
}
