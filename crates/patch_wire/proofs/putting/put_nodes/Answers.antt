-- Piece by piece.
use Rattle.std.proofs.Common.{◌++◌, subst}
use Rattle.std.specs.List.{flat_map}
use Rattle.std.proofs.lemmas.List.{take_all}
use Rattle.std.proofs.lemmas.Result.{err_from_is_err_and}
use Rattle.mesh_out.specs.Writing.{Writes}
use Rattle.replicas.specs.Grammar.{node_bytes}
use Rattle.patch_wire.specs.Putting.{CutsOff}
use Rattle.patch_wire.proofs.BatchLemmas.{item-on, item-stops, put-none}
use Rattle.patch_wire.proofs.putting.put_nodes.Goals as goal

pub loop-node-init : goal.loop-node-init
loop-node-init g c = put-none (g.K.Sink.state c.args.sink.now) c.args.batch.now

pub loop-node-preserved : goal.loop-node-preserved
loop-node-preserved g c =
    let state = g.K.Sink.state in
    item-on node_bytes c.args.nodes.now c.loop-node.node-index _ c.loop-node-test.true
    (state c.args.sink.now) (state c.loop-node.sink) (state c.put.new.sink) c.args.batch.now
    c.loop-node.batch c.put.new.self c.loop-node.invariant
    (subst (λ bytes. Writes (state c.loop-node.sink) (state c.put.new.sink)
    (c.loop-node.batch ++ bytes) c.put.new.self) c.node_bytes.ensures c.in_ok-put.ensures.held)

pub returns-in_err-put-clause-stopped : goal.returns-in_err-put-clause-stopped
returns-in_err-put-clause-stopped g c =
    let state = g.K.Sink.state in
    let p = err_from_is_err_and c.from_residual.result c.from_residual.ensures.1 in
    rw p.1 (item-stops node_bytes c.args.nodes.now c.loop-node.node-index _
    c.loop-node-test.true
    (state c.args.sink.now) (state c.loop-node.sink) (state c.put.new.sink) c.args.batch.now
    c.loop-node.batch c.loop-node.invariant
    (subst (λ bytes. CutsOff (state c.loop-node.sink) (state c.put.new.sink)
    (c.loop-node.batch ++ bytes)) c.node_bytes.ensures c.in_err-put.ensures.stopped))

pub returns-clause-held : goal.returns-clause-held
returns-clause-held g c =
    let state = g.K.Sink.state in
    subst (λ xs. Writes (state c.args.sink.now) (state c.loop-node.sink)
    (c.args.batch.now ++ flat_map node_bytes xs) c.loop-node.batch)
    (take_all c.loop-node.node-index c.args.nodes.now c.loop-node-test.false)
    c.loop-node.invariant
