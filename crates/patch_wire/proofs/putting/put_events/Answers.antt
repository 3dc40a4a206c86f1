-- Piece by piece.
use Rattle.std.proofs.Common.{◌++◌, subst}
use Rattle.std.specs.List.{flat_map}
use Rattle.std.proofs.lemmas.List.{take_all}
use Rattle.std.proofs.lemmas.Result.{err_from_is_err_and}
use Rattle.mesh_out.specs.Writing.{Writes}
use Rattle.replicas.specs.Grammar.{event_bytes}
use Rattle.patch_wire.proofs.BatchLemmas.{item-on, item-stops, put-none}
use Rattle.patch_wire.proofs.putting.put_events.Goals as goal

pub loop-event-init : goal.loop-event-init
loop-event-init g c = put-none (g.K.Sink.state c.args.sink.now) c.args.batch.now

pub loop-event-preserved : goal.loop-event-preserved
loop-event-preserved g c =
    let state = g.K.Sink.state in
    item-on event_bytes c.args.events.now c.loop-event.event-index _ c.loop-event-test.true
    (state c.args.sink.now) (state c.loop-event.sink) (state c.put_event.new.sink) c.args.batch.now
    c.loop-event.batch c.put_event.new.batch c.loop-event.invariant
    c.in_ok-put_event.ensures.held

pub returns-in_err-put_event-clause-stopped : goal.returns-in_err-put_event-clause-stopped
returns-in_err-put_event-clause-stopped g c =
    let state = g.K.Sink.state in
    let p = err_from_is_err_and c.from_residual.result c.from_residual.ensures.1 in
    rw p.1 (item-stops event_bytes c.args.events.now c.loop-event.event-index _
    c.loop-event-test.true
    (state c.args.sink.now) (state c.loop-event.sink) (state c.put_event.new.sink) c.args.batch.now
    c.loop-event.batch c.loop-event.invariant
    c.in_err-put_event.ensures.stopped)

pub returns-clause-held : goal.returns-clause-held
returns-clause-held g c =
    let state = g.K.Sink.state in
    subst (λ xs. Writes (state c.args.sink.now) (state c.loop-event.sink)
    (c.args.batch.now ++ flat_map event_bytes xs) c.loop-event.batch)
    (take_all c.loop-event.event-index c.args.events.now c.loop-event-test.false)
    c.loop-event.invariant
