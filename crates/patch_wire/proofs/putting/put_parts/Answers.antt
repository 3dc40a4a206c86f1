-- A patch, part by part.
use Rattle.std.proofs.Common.{◌++◌, subst, sym}
use Rattle.std.specs.Prelude.{All}
use Rattle.std.specs.Arc.{arc_value}
use Rattle.std.specs.List.{flat_map}
use Rattle.std.proofs.lemmas.List.Elements.{All-weaker}
use Rattle.std.proofs.lemmas.Result.{err_from_is_err_and, on_err_weaker, on_ok_weaker}
use Rattle.lattice.specs.Node.{IsNode}
use Rattle.lattice.specs.Settings.{IsDepth}
use Rattle.terrain.specs.History.{IsLawfulEvent}
use Rattle.mesh_out.specs.Writing.{Writes}
use Rattle.replicas.specs.Fits.{FitsEvent, FitsNode}
use Rattle.replicas.specs.Grammar.{block_bytes, event_bytes, node_bytes}
use Rattle.patch_wire.specs.Puttable.{wire_block}
use Rattle.replicas.specs.Worlds.{IsOfWorld}
use Rattle.patch_wire.specs.Putting.{CutsOff}
use Rattle.patch_wire.proofs.BatchLemmas.{patch-parts, put-on, stops-before, stops-on}
use Rattle.patch_wire.proofs.FitLemmas.{event_fits, node_fits, unmapped}
use Rattle.patch_wire.proofs.putting.put_parts.Goals as goal

pub put_events-requires : goal.put_events-requires
put_events-requires g c =
    let depth = c.args.patch.now.version.value.depth in
    let allowed = subst IsDepth c.requires.of c.requires.depth in
    subst (All FitsEvent) (sym c.deref-events.ensures.value)
    (All-weaker (IsLawfulEvent depth) FitsEvent (λ e. event_fits depth e allowed)
    c.args.patch.now.events.items c.requires.taken.events)

pub put_nodes-requires : goal.put_nodes-requires
put_nodes-requires g c =
    let depth = c.args.patch.now.version.value.depth in
    let allowed = subst IsDepth c.requires.of c.requires.depth in
    subst (All FitsNode) (sym c.deref-gone.ensures.value)
    (All-weaker (IsNode depth) FitsNode (λ n. node_fits depth n allowed)
    c.args.patch.now.gone.items c.requires.taken.gone)

pub put_blocks-requires-clause-world : goal.put_blocks-requires-clause-world
put_blocks-requires-clause-world g c =
    let items = c.args.patch.now.put.items in
    let all = unmapped (IsOfWorld c.args.patch.now.version.value.depth)
    (λ done. wire_block (arc_value done)) items c.requires.taken.blocks in
    subst (λ dones. All (λ done. IsOfWorld c.args.depth (wire_block (arc_value done))) dones)
    (sym c.deref-blocks.ensures.value)
    (subst (λ depth. All (λ done. IsOfWorld depth (wire_block (arc_value done))) items)
    (sym c.requires.of) all)

pub returns-in_err-put-clause-stopped : goal.returns-in_err-put-clause-stopped
returns-in_err-put-clause-stopped g c =
    let state = g.K.Sink.state in
    let start = c.args.batch.now in
    let old = state c.args.sink.now in
    let counts = c.counts_bytes-counts.result in
    let e = flat_map event_bytes c.deref-events.result.now in
    let n = flat_map node_bytes c.deref-gone.result.now in
    let b = flat_map (λ done. block_bytes (wire_block (arc_value done)))
    c.deref-blocks.result.now in
    let whole = patch-parts c.args.patch.now counts c.deref-events.result.now
    c.deref-gone.result.now c.deref-blocks.result.now c.deref-events.ensures.value
    c.deref-gone.ensures.value c.deref-blocks.ensures.value c.counts_bytes-counts.ensures in
    let new = state c.put.new.sink in
    let p = err_from_is_err_and c.from_residual.result c.from_residual.ensures.1 in
    rw p.1 (subst (λ bytes. CutsOff old new (start ++ bytes)) whole
    (stops-before old new start ((counts ++ e) ++ n) b
    (stops-before old new start (counts ++ e) n
    (stops-before old new start counts e c.in_err-put.ensures.stopped))))

pub returns-in_err-put_events-clause-stopped : goal.returns-in_err-put_events-clause-stopped
returns-in_err-put_events-clause-stopped g c =
    let state = g.K.Sink.state in
    let start = c.args.batch.now in
    let old = state c.args.sink.now in
    let counts = c.counts_bytes-counts.result in
    let e = flat_map event_bytes c.deref-events.result.now in
    let n = flat_map node_bytes c.deref-gone.result.now in
    let b = flat_map (λ done. block_bytes (wire_block (arc_value done)))
    c.deref-blocks.result.now in
    let whole = patch-parts c.args.patch.now counts c.deref-events.result.now
    c.deref-gone.result.now c.deref-blocks.result.now c.deref-events.ensures.value
    c.deref-gone.ensures.value c.deref-blocks.ensures.value c.counts_bytes-counts.ensures in
    let new = state c.put_events.new.sink in
    let p = err_from_is_err_and c.from_residual-in_err-put_events.result
    c.from_residual-in_err-put_events.ensures.1 in
    rw p.1 (subst (λ bytes. CutsOff old new (start ++ bytes)) whole
    (stops-before old new start ((counts ++ e) ++ n) b
    (stops-before old new start (counts ++ e) n
    (stops-on old (state c.put.new.sink) new start counts c.put.new.self e
    c.in_ok-put.ensures.held c.in_err-put_events.ensures.stopped))))

pub returns-in_err-put_nodes-clause-stopped : goal.returns-in_err-put_nodes-clause-stopped
returns-in_err-put_nodes-clause-stopped g c =
    let state = g.K.Sink.state in
    let start = c.args.batch.now in
    let old = state c.args.sink.now in
    let counts = c.counts_bytes-counts.result in
    let e = flat_map event_bytes c.deref-events.result.now in
    let n = flat_map node_bytes c.deref-gone.result.now in
    let b = flat_map (λ done. block_bytes (wire_block (arc_value done)))
    c.deref-blocks.result.now in
    let whole = patch-parts c.args.patch.now counts c.deref-events.result.now
    c.deref-gone.result.now c.deref-blocks.result.now c.deref-events.ensures.value
    c.deref-gone.ensures.value c.deref-blocks.ensures.value c.counts_bytes-counts.ensures in
    let two = put-on old (state c.put.new.sink) (state c.put_events.new.sink) start counts
    c.put.new.self e c.in_ok-put.ensures.held c.put_events.new.batch
    c.in_ok-put_events.ensures.held in
    let new = state c.put_nodes.new.sink in
    let p = err_from_is_err_and c.from_residual-in_err-put_nodes.result
    c.from_residual-in_err-put_nodes.ensures.1 in
    rw p.1 (subst (λ bytes. CutsOff old new (start ++ bytes)) whole
    (stops-before old new start ((counts ++ e) ++ n) b
    (stops-on old (state c.put_events.new.sink) new start (counts ++ e) c.put_events.new.batch n
    two c.in_err-put_nodes.ensures.stopped)))

pub returns-clause-held : goal.returns-clause-held
returns-clause-held g c =
    let state = g.K.Sink.state in
    let start = c.args.batch.now in
    let old = state c.args.sink.now in
    let counts = c.counts_bytes-counts.result in
    let e = flat_map event_bytes c.deref-events.result.now in
    let n = flat_map node_bytes c.deref-gone.result.now in
    let b = flat_map (λ done. block_bytes (wire_block (arc_value done)))
    c.deref-blocks.result.now in
    let whole = patch-parts c.args.patch.now counts c.deref-events.result.now
    c.deref-gone.result.now c.deref-blocks.result.now c.deref-events.ensures.value
    c.deref-gone.ensures.value c.deref-blocks.ensures.value c.counts_bytes-counts.ensures in
    let two = put-on old (state c.put.new.sink) (state c.put_events.new.sink) start counts
    c.put.new.self e c.in_ok-put.ensures.held c.put_events.new.batch
    c.in_ok-put_events.ensures.held in
    let three = put-on old (state c.put_events.new.sink) (state c.put_nodes.new.sink) start
    (counts ++ e) c.put_events.new.batch n two c.put_nodes.new.batch
    c.in_ok-put_nodes.ensures.held in
    let new = state c.put_blocks.new.sink in
    on_ok_weaker c.put_blocks.result
    (λ last. subst (λ bytes. Writes old new (start ++ bytes) c.put_blocks.new.batch) whole
    (put-on old (state c.put_nodes.new.sink) new start ((counts ++ e) ++ n) c.put_nodes.new.batch
    b three c.put_blocks.new.batch last))
    c.put_blocks.ensures.held

pub returns-clause-stopped : goal.returns-clause-stopped
returns-clause-stopped g c =
    let state = g.K.Sink.state in
    let start = c.args.batch.now in
    let old = state c.args.sink.now in
    let counts = c.counts_bytes-counts.result in
    let e = flat_map event_bytes c.deref-events.result.now in
    let n = flat_map node_bytes c.deref-gone.result.now in
    let b = flat_map (λ done. block_bytes (wire_block (arc_value done)))
    c.deref-blocks.result.now in
    let whole = patch-parts c.args.patch.now counts c.deref-events.result.now
    c.deref-gone.result.now c.deref-blocks.result.now c.deref-events.ensures.value
    c.deref-gone.ensures.value c.deref-blocks.ensures.value c.counts_bytes-counts.ensures in
    let two = put-on old (state c.put.new.sink) (state c.put_events.new.sink) start counts
    c.put.new.self e c.in_ok-put.ensures.held c.put_events.new.batch
    c.in_ok-put_events.ensures.held in
    let three = put-on old (state c.put_events.new.sink) (state c.put_nodes.new.sink) start
    (counts ++ e) c.put_events.new.batch n two c.put_nodes.new.batch
    c.in_ok-put_nodes.ensures.held in
    let new = state c.put_blocks.new.sink in
    on_err_weaker c.put_blocks.result
    (λ last. subst (λ bytes. CutsOff old new (start ++ bytes)) whole
    (stops-on old (state c.put_nodes.new.sink) new start ((counts ++ e) ++ n)
    c.put_nodes.new.batch b three last))
    c.put_blocks.ensures.stopped
