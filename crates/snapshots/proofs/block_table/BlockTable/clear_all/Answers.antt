-- The next node's slot is cleared, and the others stay.
use Rattle.std.proofs.Common.{◌∙◌, sym, ap, take}
use Rattle.std.proofs.lemmas.List.{take_more}
use Rattle.node_tables.specs.NodeSlots.{item_at}
use Rattle.snapshots.specs.Blocks.{cleared}
use Rattle.snapshots.proofs.PutLemmas.{clear_step}
use Rattle.snapshots.proofs.block_table.BlockTable.clear_all.Goals as goal

pub loop-node-preserved : goal.loop-node-preserved
loop-node-preserved c =
    let nodes = c.args.nodes.now in
    let at = c.loop-node.node-index in
    record {
      depth = c.clear.ensures.depth ∙ c.loop-node.invariant.depth;
      slots = λ n.
          clear_step c.args.self.now c.loop-node.self c.clear.new.self (take at nodes) _
          c.loop-node.invariant.slots c.clear.ensures.here c.clear.ensures.others n
          ∙ ap (λ xs. cleared xs n (item_at c.args.self.now n))
          (sym (take_more nodes at _ c.loop-node-test.true));
      table = c.clear.ensures.table;
    }
