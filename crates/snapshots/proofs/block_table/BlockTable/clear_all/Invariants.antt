-- The slots of the nodes so far are cleared, and the table keeps what it has to.
use Rattle.std.proofs.Common.{◌≡◌, take}
use Rattle.lattice.specs.declared.node.Node.{Node}
use Rattle.node_tables.specs.NodeSlots.{item_at}
use Rattle.snapshots.specs.Blocks.{IsBlockTable, cleared}
use Rattle.snapshots.proofs.block_table.BlockTable.clear_all.Given as goal

-- the slots of the nodes so far are cleared
abbrev pub invariant-loop-node : goal.invariant-loop-node
invariant-loop-node l = record {
  depth : l.self.depth ≡ l.initial.self.depth;
  slots : (n : Node) → item_at l.self n
      ≡ cleared (take l.node-index l.nodes) n (item_at l.initial.self n);
  table : IsBlockTable l.self;
}
