-- The next node's slot is cleared, and the others stay.
use Rattle.std.proofs.Common.{◌∙◌, sym, ap, take}
use Rattle.std.proofs.lemmas.List.{take_all, take_more}
use Rattle.node_tables.specs.NodeSlots.{item_at}
use Rattle.replicas.specs.Following.{without}
use Rattle.replicas.proofs.PutLemmas.{clear_step}
use Rattle.replicas.proofs.put.clear_all.Goals as goal

pub loop-node-preserved : goal.loop-node-preserved
loop-node-preserved c =
    let nodes = c.args.nodes.now in
    let at = c.loop-node.node-index in
    record {
      depth = c.clear.ensures.depth ∙ c.loop-node.invariant.depth;
      slots = λ n.
          clear_step c.args.table.now c.loop-node.table c.clear.new.self (take at nodes) _
          c.loop-node.invariant.slots c.clear.ensures.here c.clear.ensures.others n
          ∙ ap (λ xs. without xs n (item_at c.args.table.now n))
          (sym (take_more nodes at _ c.loop-node-test.true));
    }

pub returns-clause-slots : goal.returns-clause-slots
returns-clause-slots c = λ n.
    c.loop-node.invariant.slots n
    ∙ ap (λ xs. without xs n (item_at c.args.table.now n))
    (take_all c.loop-node.node-index c.args.nodes.now c.loop-node-test.false)
