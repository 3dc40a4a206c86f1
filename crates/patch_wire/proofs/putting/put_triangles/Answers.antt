-- Piece by piece.
use Rattle.std.proofs.Common.{◌++◌, subst}
use Rattle.std.specs.List.{flat_map}
use Rattle.std.proofs.lemmas.List.{take_all}
use Rattle.std.proofs.lemmas.Result.{err_from_is_err_and}
use Rattle.mesh_out.specs.Writing.{Writes}
use Rattle.replicas.specs.Grammar.{triangle_bytes}
use Rattle.patch_wire.proofs.BatchLemmas.{item-on, item-stops, put-none}
use Rattle.patch_wire.proofs.putting.put_triangles.Goals as goal

pub loop-places-init : goal.loop-places-init
loop-places-init g c = put-none (g.K.Sink.state c.args.sink.now) c.args.batch.now

pub loop-places-preserved : goal.loop-places-preserved
loop-places-preserved g c =
    let state = g.K.Sink.state in
    item-on triangle_bytes c.args.triangles.now c.loop-places.places-index _ c.loop-places-test.true
    (state c.args.sink.now) (state c.loop-places.sink) (state c.put_triangle.new.sink)
    c.args.batch.now c.loop-places.batch c.put_triangle.new.batch c.loop-places.invariant
    c.in_ok-put_triangle.ensures.held

pub returns-in_err-put_triangle-clause-stopped : goal.returns-in_err-put_triangle-clause-stopped
returns-in_err-put_triangle-clause-stopped g c =
    let state = g.K.Sink.state in
    let p = err_from_is_err_and c.from_residual.result c.from_residual.ensures.1 in
    rw p.1 (item-stops triangle_bytes c.args.triangles.now c.loop-places.places-index _
    c.loop-places-test.true
    (state c.args.sink.now) (state c.loop-places.sink) (state c.put_triangle.new.sink)
    c.args.batch.now c.loop-places.batch c.loop-places.invariant
    c.in_err-put_triangle.ensures.stopped)

pub returns-clause-held : goal.returns-clause-held
returns-clause-held g c =
    let state = g.K.Sink.state in
    subst (λ xs. Writes (state c.args.sink.now) (state c.loop-places.sink)
    (c.args.batch.now ++ flat_map triangle_bytes xs) c.loop-places.batch)
    (take_all c.loop-places.places-index c.args.triangles.now c.loop-places-test.false)
    c.loop-places.invariant
