-- The blocks so far are in their nodes' slots.
use Rattle.std.proofs.Common.{◌≡◌, map}
use Rattle.lattice.specs.declared.node.Node.{Node}
use Rattle.node_tables.specs.NodeSlots.{item_at}
use Rattle.replicas.specs.Following.{put_last}
use Rattle.replicas.specs.Puts.{block_put}
use Rattle.replicas.proofs.put.put_all.Given as goal

abbrev pub invariant-loop-put : goal.invariant-loop-put
invariant-loop-put l = record {
  depth : l.table.depth ≡ l.initial.table.depth;
  slots : (n : Node) → item_at l.table n
      ≡ put_last (map block_put l.yielded) n (item_at l.initial.table n);
}
