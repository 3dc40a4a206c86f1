-- The bytes are those of the definition.
use Rattle.std.proofs.Common.{◌++◌, OnErr, OnOk, subst}
use Rattle.mesh_out.specs.Writing.{Writes}
use Rattle.patch_wire.specs.Putting.{CutsOff}
use Rattle.patch_wire.proofs.putting.put_vertex.Goals as goal

pub returns-clause-held : goal.returns-clause-held
returns-clause-held g c =
    let state = g.K.Sink.state in
    subst (λ bytes. OnOk c.put.result (Writes (state c.args.sink.now) (state c.put.new.sink)
    (c.args.batch.now ++ bytes) c.put.new.self)) c.vertex_bytes.ensures c.put.ensures.held

pub returns-clause-stopped : goal.returns-clause-stopped
returns-clause-stopped g c =
    let state = g.K.Sink.state in
    subst (λ bytes. OnErr c.put.result (CutsOff (state c.args.sink.now) (state c.put.new.sink)
    (c.args.batch.now ++ bytes))) c.vertex_bytes.ensures c.put.ensures.stopped
