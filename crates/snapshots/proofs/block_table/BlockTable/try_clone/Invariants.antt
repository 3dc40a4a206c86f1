-- The copy has the blocks of the nodes so far.
use Rattle.std.proofs.Common.{◌≡◌, take}
use Rattle.lattice.specs.declared.node.Node.{Node}
use Rattle.node_tables.specs.NodeSlots.{item_at}
use Rattle.snapshots.specs.Blocks.{IsBlockTable}
use Rattle.snapshots.proofs.PutLemmas.{kept_among}
use Rattle.snapshots.proofs.block_table.BlockTable.try_clone.Given as goal

-- the copy has the blocks of the nodes so far
abbrev pub invariant-loop-node : goal.invariant-loop-node
invariant-loop-node l = record {
  depth : l.copy.depth ≡ l.self.depth;
  slots : (n : Node) → item_at l.copy n
      ≡ kept_among (take l.node-index l.nodes) n (item_at l.self n);
  table : IsBlockTable l.copy;
}
