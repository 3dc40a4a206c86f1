-- Where memory runs out or a write fails, a first part of the text is written.
use Rattle.std.proofs.Common.{◌++◌, subst, sym, ◌∙◌, arith}
use Rattle.std.specs.List.{flat_map}
use Rattle.std.proofs.lemmas.Grind.{common_steps}
use Rattle.std.proofs.lemmas.Result.{err_from_is_err_and}
use Rattle.lattice.specs.Node.{nodes}
use Rattle.mesh_out.specs.Writing.{StopsWriting}
use Rattle.mesh_out.specs.declared.fault.OutFault.TheVariants.{WriteFault}
use Rattle.mesh_out.proofs.WritingLemmas.{StopsWriting-rest}
use Rattle.terra_io.proofs.StreamLemmas.{Appends-trans}
use Rattle.terra_io.specs.Stream.{Appends}
use Rattle.replicas.specs.Replicas.{block_shown}
use Rattle.patch_wire.specs.Written.{blocks_at, blocks_text}
use Rattle.patch_wire.proofs.WrittenLemmas.{text-headed}
use Rattle.patch_wire.proofs.text.write_replica.Goals as goal

pub returns-in_err-write_blocks-clause-stopped : goal.returns-in_err-write_blocks-clause-stopped
returns-in_err-write_blocks-clause-stopped g c =
    let residual = c.from_residual-in_err-write_blocks in
    let p = err_from_is_err_and residual.result residual.ensures.1 in
    let state = g.K.Sink.state in
    let stopped = subst (λ t. StopsWriting c.in_err-write_blocks.field-0.0
    (state c.args.sink.now) (state c.write_blocks.new.sink) t)
    (text-headed c.args.replica.now c.in-Some.settings.now c.push_shot_head.new.out.items
    c.in-Some.ensures.value (grind (arith, common_steps))) c.in_err-write_blocks.ensures.stopped in
    rw (p.1, p.2) stopped

pub returns-in_err-put_all-clause-stopped : goal.returns-in_err-put_all-clause-stopped
returns-in_err-put_all-clause-stopped g c =
    let residual = c.from_residual-in_err-put_all in
    let p = err_from_is_err_and residual.result residual.ensures.1 in
    let state = g.K.Sink.state in
    let old = state c.args.sink.now in
    let mid = state c.write_blocks.new.sink in
    let new = state c.put_all.new.sink in
    let blocks = blocks_text 0 (flat_map (blocks_at (block_shown c.args.replica.now))
    (nodes c.in-Some.settings.now.depth)) in
    let failed : StopsWriting WriteFault mid new c.write_blocks.new.text.items = (
      rw (← c.deref.ensures.value) c.in_err-put_all.ensures.prefix,
      c.in_err-put_all.ensures.failed,
    ) in
    let stopped = subst (λ t. StopsWriting WriteFault old new t)
    (text-headed c.args.replica.now c.in-Some.settings.now c.push_shot_head.new.out.items
    c.in-Some.ensures.value (grind (arith, common_steps)))
    (StopsWriting-rest old mid new (c.push_shot_head.new.out.items ++ blocks)
    c.write_blocks.new.text.items c.in_ok-write_blocks.ensures.text WriteFault failed) in
    rw (p.1, p.2) stopped

pub returns-clause-text : goal.returns-clause-text
returns-clause-text g c =
    let state = g.K.Sink.state in
    let old = state c.args.sink.now in
    let mid = state c.write_blocks.new.sink in
    let new = state c.put_all.new.sink in
    let first = c.in_ok-write_blocks.ensures.text in
    let last = subst (Appends mid new) c.deref.ensures.value c.in_ok-put_all.ensures.appended in
    let all = Appends-trans old mid new first.front c.write_blocks.new.text.items first.appended
    last in
    subst (Appends old new) (sym first.parts
    ∙ text-headed c.args.replica.now c.in-Some.settings.now c.push_shot_head.new.out.items
    c.in-Some.ensures.value (grind (arith, common_steps))) all
