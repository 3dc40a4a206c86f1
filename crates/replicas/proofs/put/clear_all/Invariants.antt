-- The slots of the nodes so far are cleared.
use Rattle.std.proofs.Common.{◌≡◌, take}
use Rattle.lattice.specs.declared.node.Node.{Node}
use Rattle.node_tables.specs.NodeSlots.{item_at}
use Rattle.replicas.specs.Following.{without}
use Rattle.replicas.proofs.put.clear_all.Given as goal

abbrev pub invariant-loop-node : goal.invariant-loop-node
invariant-loop-node l = record {
  depth : l.table.depth ≡ l.initial.table.depth;
  slots : (n : Node) → item_at l.table n
      ≡ without (take l.node-index l.nodes) n (item_at l.initial.table n);
}
