-- The blocks node by node.
use Rattle.std.proofs.Common.{◌≡◌, ◌≤◌, ◌++◌, None, Some, length, get_or, subst, sym, ap, ◌∙◌, append-nil, arith}
use Rattle.std.specs.Prelude.{MatchOption}
use Rattle.std.specs.List.{flat_map}
use Rattle.std.proofs.lemmas.List.{take_all}
use Rattle.std.proofs.lemmas.Result.{err_from_is_err_and}
use Rattle.lattice.specs.declared.node.Node.{Node}
use Rattle.lattice.specs.Node.{nodes}
use Rattle.terrain.specs.MeshLists.{lists_of}
use Rattle.mesh_out.specs.Writing.{StopsWriting, Writes}
use Rattle.mesh_out.proofs.WritingLemmas.{StopsWriting-none, Writes-none}
use Rattle.replicas.specs.Replicas.{block_shown}
use Rattle.patch_wire.specs.Written.{blocks_at, blocks_text, has_block}
use Rattle.patch_wire.proofs.WrittenLemmas.{block-on, block-stops, blocks-kept, blocks-same, count-more, few_kept, key_count, vertices-fit}
use Rattle.patch_wire.proofs.text.write_blocks.Goals as goal
use Rattle.patch_wire.proofs.text.write_blocks.Goals.{in-Some+in_ok-write_mesh, in_default}

-- what a list of nodes is read as past its end
abbrev past_end : Node
past_end = record { level = 0; k = 0; j = 0; i = 0 }

pub loop-node-init : goal.loop-node-init
loop-node-init g c =
    let s = g.K.Sink.state c.args.sink.now in
    let text = c.args.text.now.items in (
      subst (λ t. Writes s s t text) (sym (append-nil text)) (Writes-none s text),
      omega arith,
      omega arith,
    )

pub write_mesh-requires-clause-base_fits : goal.write_mesh-requires-clause-base_fits
write_mesh-requires-clause-base_fits g c =
    let few : length c.deref-node-items.result.now ≤ length (nodes c.args.depth) =
    omega (
      arith,
      ap length (c.deref-node-items.ensures.value ∙ c.in_ok-nodes.ensures),
      few_kept (has_block c.args.replica.now) (nodes c.args.depth),
    ) in
    omega (
      arith,
      vertices-fit c.loop-node.vertices c.loop-node.node-index
          (length c.deref-node-items.result.now) (length (nodes c.args.depth))
          c.loop-node.invariant.2 c.loop-node-test.true few
          (c.counts_of_nodes.ensures.most c.args.depth c.requires),
    )

pub overflow_add-vertices : goal.overflow_add-vertices
overflow_add-vertices g c =
    let few : length c.deref-node-items.result.now ≤ length (nodes c.args.depth) =
    omega (
      arith,
      ap length (c.deref-node-items.ensures.value ∙ c.in_ok-nodes.ensures),
      few_kept (has_block c.args.replica.now) (nodes c.args.depth),
    ) in
    omega (
      arith,
      vertices-fit c.loop-node.vertices c.loop-node.node-index
          (length c.deref-node-items.result.now) (length (nodes c.args.depth))
          c.loop-node.invariant.2 c.loop-node-test.true few
          (c.counts_of_nodes.ensures.most c.args.depth c.requires),
      c.in-Some.ensures.few,
    )

pub loop-node-preserved : goal.loop-node-preserved
loop-node-preserved g c = elim c.match-block.branch [
  | in-Some+in_ok-write_mesh w ↦
      let block = block_shown c.args.replica.now in
      let xs = c.deref-node-items.result.now in
      let i = c.loop-node.node-index in
      let state = g.K.Sink.state in
      let v = c.loop-node.vertices in
      let so_far = c.loop-node.invariant in
      let lists = lists_of w.in-Some.block in
      let on = block-on block xs i past_end c.loop-node-test.true lists w.in-Some.ensures.lists
      (state c.args.sink.now) (state c.loop-node.sink) (state w.write_mesh.new.sink)
      c.args.text.now.items c.loop-node.text.items w.write_mesh.new.text.items v so_far.0 so_far.1
      w.in_ok-write_mesh.ensures.text in (
        rw (w.sink-is, w.text-is) on,
        w.vertices-is
            ∙ count-more block xs i past_end c.loop-node-test.true lists w.in-Some.ensures.lists v
            so_far.1,
        omega (arith, w.vertices-is, so_far.2, w.in-Some.ensures.few),
      )
  | in_default w ↦
      let block = block_shown c.args.replica.now in
      let xs = c.deref-node-items.result.now in
      let i = c.loop-node.node-index in
      let state = g.K.Sink.state in
      let so_far = c.loop-node.invariant in
      let none : block (get_or xs i past_end) ≡ None =
      subst (λ o. MatchOption o (block (get_or xs i past_end) ≡ None)
      (λ view. block (get_or xs i past_end) ≡ Some (lists_of view))) w.in_default.is
      c.block.ensures.lists in
      let same = blocks-same block xs i past_end c.loop-node-test.true none in
      let on = subst (λ bs. Writes (state c.args.sink.now) (state c.loop-node.sink)
      (c.args.text.now.items ++ blocks_text 0 bs) c.loop-node.text.items) (sym same) so_far.0 in (
        rw (w.sink-is, w.text-is) on,
        w.vertices-is ∙ so_far.1 ∙ ap key_count (sym same),
        omega (arith, w.vertices-is, so_far.2),
      )
]

pub returns-clause-text : goal.returns-clause-text
returns-clause-text g c =
    let state = g.K.Sink.state in
    let f = blocks_at (block_shown c.args.replica.now) in
    subst (λ bs. Writes (state c.args.sink.now) (state c.loop-node.sink)
    (c.args.text.now.items ++ blocks_text 0 bs) c.loop-node.text.items)
    (ap (flat_map f) (take_all c.loop-node.node-index c.deref-node-items.result.now
    c.loop-node-test.false
    ∙ c.deref-node-items.ensures.value ∙ c.in_ok-nodes.ensures)
    ∙ blocks-kept (block_shown c.args.replica.now) (nodes c.args.depth)) c.loop-node.invariant.0

pub returns-in_err-nodes-clause-stopped : goal.returns-in_err-nodes-clause-stopped
returns-in_err-nodes-clause-stopped g c =
    let residual = c.from_residual in
    let p = err_from_is_err_and residual.result residual.ensures.1 in
    rw (p.1, p.2) (StopsWriting-none (g.K.Sink.state c.args.sink.now)
    (c.args.text.now.items ++ blocks_text 0
    (flat_map (blocks_at (block_shown c.args.replica.now)) (nodes c.args.depth))))

pub returns-in_err-write_mesh-clause-stopped : goal.returns-in_err-write_mesh-clause-stopped
returns-in_err-write_mesh-clause-stopped g c =
    let residual = c.from_residual-in_err-write_mesh in
    let p = err_from_is_err_and residual.result residual.ensures.1 in
    let block = block_shown c.args.replica.now in
    let xs = c.deref-node-items.result.now in
    let state = g.K.Sink.state in
    let so_far = c.loop-node.invariant in
    let fault = c.in_err-write_mesh.field-0.0 in
    let old = state c.args.sink.now in
    let new = state c.write_mesh.new.sink in
    let stopped = block-stops block xs c.loop-node.node-index past_end c.loop-node-test.true
    (lists_of c.in-Some.block) c.in-Some.ensures.lists old (state c.loop-node.sink) new
    c.args.text.now.items c.loop-node.text.items c.loop-node.vertices fault so_far.0 so_far.1
    c.in_err-write_mesh.ensures.stopped in
    let whole = subst (λ bs. StopsWriting fault old new (c.args.text.now.items ++ blocks_text 0 bs))
    (ap (flat_map (blocks_at block)) (c.deref-node-items.ensures.value ∙ c.in_ok-nodes.ensures)
    ∙ blocks-kept block (nodes c.args.depth)) stopped in
    rw (p.1, p.2) whole
