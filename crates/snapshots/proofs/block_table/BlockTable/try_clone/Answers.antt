-- One node more is looked at: its block is put into the copy, or it has none.
use Rattle.std.proofs.Common.{Some, ap, arith, sym, take, ◌∙◌}
use Rattle.std.proofs.lemmas.List.{take_all, take_more}
use Rattle.node_tables.specs.NodeSlots.{item_at}
use Rattle.snapshots.proofs.PutLemmas.{keep_nothing, keep_step, kept_among, kept_among-all}
use Rattle.snapshots.proofs.TableLemmas.{item_in, same_tables}
use Rattle.snapshots.proofs.block_table.BlockTable.try_clone.Goals as goal

pub loop-node-preserved-in_default : goal.loop-node-preserved-in_default
loop-node-preserved-in_default c =
    let table = c.args.self.now in
    let nodes = c.args.nodes.now in
    let at = c.loop-node.node-index in
    record {
      depth = c.loop-node.invariant.depth;
      slots = λ n.
          keep_nothing table c.loop-node.copy (take at nodes) _ c.loop-node.invariant.slots
          c.in_default.ensures n
          ∙ ap (λ xs. kept_among xs n (item_at table n))
          (sym (take_more nodes at _ c.loop-node-test.true));
      table = c.loop-node.invariant.table;
    }

pub set-requires : goal.set-requires
set-requires c =
    item_in c.args.self.now _ _ _ c.loop-node.invariant.depth c.in-Some.ensures

pub loop-node-preserved : goal.loop-node-preserved
loop-node-preserved c =
    let table = c.args.self.now in
    let nodes = c.args.nodes.now in
    let at = c.loop-node.node-index in
    record {
      depth = c.set.ensures.depth ∙ c.loop-node.invariant.depth;
      slots = λ n.
          keep_step table c.loop-node.copy c.set.new.self (take at nodes) _
          c.loop-node.invariant.slots
          (c.set.ensures.here ∙ ap Some c.in_ok-try_clone.ensures ∙ sym c.in-Some.ensures)
          c.set.ensures.others n
          ∙ ap (λ xs. kept_among xs n (item_at table n))
          (sym (take_more nodes at _ c.loop-node-test.true));
      table = c.set.ensures.table;
    }

pub returns : goal.returns
returns c =
    let table = c.args.self.now in
    let nodes = c.args.nodes.now in
    same_tables c.loop-node.copy table c.loop-node.invariant.table.table.long
    c.depth.ensures.table.table.long c.loop-node.invariant.depth
    (λ n.
    c.loop-node.invariant.slots n
    ∙ ap (λ xs. kept_among xs n (item_at table n))
    (take_all c.loop-node.node-index nodes (omega arith))
    ∙ kept_among-all nodes n (item_at table n) (c.requires n))
