-- The blocks so far are in their nodes' slots, and the table keeps what it has to.
use Rattle.std.proofs.Common.{◌≡◌, map}
use Rattle.std.specs.Arc.{arc_value}
use Rattle.lattice.specs.declared.node.Node.{Node}
use Rattle.node_tables.specs.NodeSlots.{item_at}
use Rattle.snapshots.specs.Blocks.{IsBlockTable, put_over}
use Rattle.snapshots.proofs.block_table.BlockTable.put_all.Given as goal

-- the blocks so far are in their nodes' slots
abbrev pub invariant-loop-done : goal.invariant-loop-done
invariant-loop-done l = record {
  depth : l.self.depth ≡ l.initial.self.depth;
  slots : (n : Node) → item_at l.self n
      ≡ put_over (map arc_value l.yielded) n (item_at l.initial.self n);
  table : IsBlockTable l.self;
}
