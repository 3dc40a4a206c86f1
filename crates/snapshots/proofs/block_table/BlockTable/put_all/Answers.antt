-- The next block is put into its node's slot, and the others stay.
use Rattle.std.proofs.Common.{◌≡◌, ◌<◌, [], ◌∷◌, ◌∙◌, sym, ap, get_or, length, map, map-id, subst}
use Rattle.std.proofs.lemmas.Iterator.Adapters.{YieldsList-from_vec}
use Rattle.std.proofs.lemmas.Iterator.Consumers.{YieldsList-end, YieldsList-turn}
use Rattle.std.proofs.lemmas.List.{get_or-map, length-map, map-append}
use Rattle.std.specs.Arc.{arc_value}
use Rattle.lattice.specs.Node.{IsNode}
use Rattle.block_mesh.specs.Done.{DoneState}
use Rattle.node_tables.specs.NodeSlots.{item_at}
use Rattle.snapshots.specs.Blocks.{put_over}
use Rattle.snapshots.proofs.PutLemmas.{put_step}
use Rattle.snapshots.proofs.block_table.BlockTable.put_all.Goals as goal

pub set-requires : goal.set-requires
set-requires c =
    let items = c.args.dones.items in
    let gives = c.into_iter-done-iterator.ensures.into_iter_gives in
    let turn = YieldsList-turn (YieldsList-from_vec {s = c.into_iter-done-iterator.result} items
    gives.0 (gives.1 ∙ c.args.dones.ok.0)) c.loop-done.yielded c.loop-done.done-iterator
    c.loop-done.yielded_by c.next.result c.next.new.self c.in-Some.done c.in-Some.is
    c.next.ensures.steps in
    let at = length c.loop-done.yielded in
    let done : DoneState = arc_value c.in-Some.done in
    let below : at < length (map arc_value items) =
    subst (λ n. at < n) (sym (length-map items arc_value)) turn.0 in
    let is : get_or (map arc_value items) at done ≡ done =
    get_or-map arc_value items at c.in-Some.done done turn.0 ∙ ap arc_value (sym turn.1) in
    subst (λ d. IsNode d c.node.result) (sym c.loop-done.invariant.depth)
    (subst (λ n. IsNode c.args.self.now.depth n)
    (sym (c.node.ensures.value ∙ ap (λ d. d.brick.node) c.deref.ensures))
    (subst (λ (d : DoneState). IsNode c.args.self.now.depth d.brick.node) is
    (c.requires at done below)))

pub loop-done-preserved : goal.loop-done-preserved
loop-done-preserved c = record {
  depth = c.set.ensures.depth ∙ c.loop-done.invariant.depth;
  slots = λ n.
      put_step c.args.self.now c.loop-done.self
      c.set.new.self (map arc_value c.loop-done.yielded) (arc_value c.in-Some.done) c.node.result
      (c.node.ensures.value ∙ ap (λ d. d.brick.node) c.deref.ensures)
      c.loop-done.invariant.slots c.set.ensures.here c.set.ensures.others n
      ∙ ap (λ xs. put_over xs n (item_at c.args.self.now n))
      (sym (map-append arc_value c.loop-done.yielded (c.in-Some.done ∷ [])));
  table = c.set.ensures.table;
}

pub returns : goal.returns
returns c =
    let gives = c.into_iter-done-iterator.ensures.into_iter_gives in
    let all = YieldsList-end (YieldsList-from_vec {s = c.into_iter-done-iterator.result}
    c.args.dones.items gives.0 (gives.1 ∙ c.args.dones.ok.0))
    c.loop-done.yielded c.loop-done.done-iterator c.loop-done.yielded_by c.next.result
    c.next.new.self c.in-None.is c.next.ensures.steps in
    record {
      depth = c.loop-done.invariant.depth;
      slots = λ n.
          c.loop-done.invariant.slots n
          ∙ ap (λ xs. put_over (map arc_value xs) n (item_at c.args.self.now n))
          (sym (map-id c.loop-done.yielded) ∙ all.0);
      table = c.loop-done.invariant.table;
    }
