-- The next block is put into its node's slot, and the others stay.
use Rattle.std.proofs.Common.{◌∙◌, sym, ap, length, map, map-id, subst}
use Rattle.std.proofs.lemmas.Iterator.Adapters.{YieldsList-from_vec}
use Rattle.std.proofs.lemmas.Iterator.Consumers.{YieldsList-end, YieldsList-turn}
use Rattle.std.proofs.lemmas.List.{map_push}
use Rattle.lattice.specs.Node.{IsNode}
use Rattle.node_tables.specs.NodeSlots.{item_at}
use Rattle.replicas.specs.declared.put.Put.{Put}
use Rattle.replicas.specs.Following.{put_last}
use Rattle.replicas.specs.Puts.{block_put}
use Rattle.replicas.proofs.PutLemmas.{put_step}
use Rattle.replicas.proofs.put.put_all.Goals as goal

pub set-requires : goal.set-requires
set-requires c =
    let items = c.args.puts.items in
    let gives = c.into_iter-put-iterator.ensures.into_iter_gives in
    let turn = YieldsList-turn (YieldsList-from_vec {s = c.into_iter-put-iterator.result} items
    gives.0 (gives.1 ∙ c.args.puts.ok.0)) c.loop-put.yielded c.loop-put.put-iterator
    c.loop-put.yielded_by c.next.result c.next.new.self c.in-Some.put c.in-Some.is
    c.next.ensures.steps in
    subst (λ d. IsNode d c.in-Some.put.node) (sym c.loop-put.invariant.depth)
    (subst (λ (put : Put). IsNode c.args.table.now.depth put.node) (sym turn.1)
    (c.requires (length c.loop-put.yielded) c.in-Some.put turn.0))

pub loop-put-preserved : goal.loop-put-preserved
loop-put-preserved c = record {
  depth = c.set.ensures.depth ∙ c.loop-put.invariant.depth;
  slots = λ n.
      put_step c.args.table.now c.loop-put.table c.set.new.self
      (map block_put c.loop-put.yielded) (block_put c.in-Some.put) c.loop-put.invariant.slots
      c.set.ensures.here c.set.ensures.others n
      ∙ ap (λ xs. put_last xs n (item_at c.args.table.now n))
      (sym (map_push block_put c.loop-put.yielded c.in-Some.put));
}

pub returns : goal.returns
returns c =
    let gives = c.into_iter-put-iterator.ensures.into_iter_gives in
    let all = YieldsList-end (YieldsList-from_vec {s = c.into_iter-put-iterator.result}
    c.args.puts.items gives.0 (gives.1 ∙ c.args.puts.ok.0))
    c.loop-put.yielded c.loop-put.put-iterator c.loop-put.yielded_by c.next.result
    c.next.new.self c.in-None.is c.next.ensures.steps in
    record {
      depth = c.loop-put.invariant.depth;
      slots = λ n.
          c.loop-put.invariant.slots n
          ∙ ap (λ xs. put_last (map block_put xs) n (item_at c.args.table.now n))
          (sym (map-id c.loop-put.yielded) ∙ all.0);
    }
