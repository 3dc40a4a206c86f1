-- Block by block.
use Rattle.std.proofs.Common.{◌++◌, subst, sym}
use Rattle.std.specs.Arc.{arc_value}
use Rattle.std.specs.List.{flat_map}
use Rattle.std.proofs.lemmas.List.{take_all}
use Rattle.std.proofs.lemmas.Result.{err_from_is_err_and}
use Rattle.mesh_out.specs.Writing.{Writes}
use Rattle.replicas.specs.Grammar.{block_bytes}
use Rattle.patch_wire.specs.Puttable.{wire_block}
use Rattle.replicas.specs.Worlds.{IsOfWorld}
use Rattle.patch_wire.specs.Putting.{CutsOff}
use Rattle.patch_wire.proofs.BatchLemmas.{item-on, item-stops, put-none}
use Rattle.patch_wire.proofs.putting.put_blocks.Goals as goal

pub loop-done-init : goal.loop-done-init
loop-done-init g c = put-none (g.K.Sink.state c.args.sink.now) c.args.batch.now

pub put_block-requires-clause-world : goal.put_block-requires-clause-world
put_block-requires-clause-world g c =
    subst (λ done. IsOfWorld c.args.depth (wire_block (arc_value done))) (sym c.done-item.is)
    (c.requires.world c.loop-done.done-index c.done-item.result c.loop-done-test.true)

pub loop-done-preserved : goal.loop-done-preserved
loop-done-preserved g c =
    let state = g.K.Sink.state in
    let done = c.done-item.result in
    item-on (λ done. block_bytes (wire_block (arc_value done))) c.args.dones.now
    c.loop-done.done-index done c.loop-done-test.true (state c.args.sink.now)
    (state c.loop-done.sink) (state c.put_block.new.sink) c.args.batch.now c.loop-done.batch
    c.put_block.new.batch c.loop-done.invariant
    (subst (λ d. Writes (state c.loop-done.sink) (state c.put_block.new.sink)
    (c.loop-done.batch ++ block_bytes (wire_block (arc_value d))) c.put_block.new.batch)
    c.done-item.is c.in_ok-put_block.ensures.held)

pub returns-in_err-put_block-clause-stopped : goal.returns-in_err-put_block-clause-stopped
returns-in_err-put_block-clause-stopped g c =
    let state = g.K.Sink.state in
    let done = c.done-item.result in
    let p = err_from_is_err_and c.from_residual.result c.from_residual.ensures.1 in
    rw p.1 (item-stops (λ done. block_bytes (wire_block (arc_value done))) c.args.dones.now
    c.loop-done.done-index done c.loop-done-test.true (state c.args.sink.now)
    (state c.loop-done.sink) (state c.put_block.new.sink) c.args.batch.now c.loop-done.batch
    c.loop-done.invariant
    (subst (λ d. CutsOff (state c.loop-done.sink) (state c.put_block.new.sink)
    (c.loop-done.batch ++ block_bytes (wire_block (arc_value d)))) c.done-item.is
    c.in_err-put_block.ensures.stopped))

pub returns-clause-held : goal.returns-clause-held
returns-clause-held g c =
    let state = g.K.Sink.state in
    subst (λ xs. Writes (state c.args.sink.now) (state c.loop-done.sink)
    (c.args.batch.now ++ flat_map (λ done. block_bytes (wire_block (arc_value done))) xs)
    c.loop-done.batch)
    (take_all c.loop-done.done-index c.args.dones.now c.loop-done-test.false)
    c.loop-done.invariant
