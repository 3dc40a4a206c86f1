-- What is held last is written, or a call fails.
use Rattle.std.proofs.Common.{◌++◌, subst}
use Rattle.std.proofs.lemmas.Result.{on_err_weaker}
use Rattle.mesh_out.specs.Writing.{Writes}
use Rattle.mesh_out.specs.declared.fault.OutFault.TheVariants.{WriteFault}
use Rattle.mesh_out.proofs.WritingLemmas.{StopsWriting-rest}
use Rattle.replicas.specs.Grammar.{patch_bytes}
use Rattle.patch_wire.specs.Puttable.{wire_patch}
use Rattle.patch_wire.proofs.putting.put_patch.Goals as goal

pub returns-clause-stopped : goal.returns-clause-stopped
returns-clause-stopped g c =
    let state = g.K.Sink.state in
    let bytes = patch_bytes (wire_patch c.args.patch.now) in
    let put = subst (λ held. Writes (state c.args.sink.now) (state c.put_parts.new.sink)
    (held ++ bytes) c.put_parts.new.batch) c.new-batch.ensures c.in_ok-put_parts.ensures.held in
    on_err_weaker c.write.result
    (λ last. StopsWriting-rest (state c.args.sink.now) (state c.put_parts.new.sink)
    (state c.write.new.sink) bytes c.put_parts.new.batch put WriteFault last)
    c.write.ensures.stopped
