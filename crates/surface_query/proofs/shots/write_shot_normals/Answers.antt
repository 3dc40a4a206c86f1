-- Where memory runs out or a write fails, a first part of the shot is written.
use Rattle.std.proofs.Common.{◌≡◌, ℕ, List, ◌++◌, [], length, subst, sym, ap, ◌∙◌, arith}
use Rattle.std.proofs.lemmas.Grind.{common_steps}
use Rattle.std.proofs.lemmas.Result.{err_from_is_err_and}
use Rattle.lattice.specs.declared.settings.Settings.{Settings}
use Rattle.mesh_out.proofs.WritingLemmas.{StopsWriting-rest}
use Rattle.mesh_out.specs.Text.{shot_head}
use Rattle.mesh_out.specs.Writing.{StopsWriting}
use Rattle.mesh_out.specs.declared.fault.OutFault.TheVariants.{WriteFault}
use Rattle.terra_io.proofs.StreamLemmas.{Appends-trans}
use Rattle.terra_io.specs.Stream.{Appends}
use Rattle.terrain.specs.Blocks.{Mesh, scratch}
use Rattle.terrain.specs.History.{sample}
use Rattle.terrain.specs.declared.event.Event.{Event}
use Rattle.surface_normals.specs.Normals.{normal_of}
use Rattle.surface_query.specs.NormalText.{meshes_with_normals, normals_text}
use Rattle.surface_query.specs.declared.bases.Bases.{Bases}
use Rattle.surface_query.proofs.shots.write_shot_normals.Goals as goal

-- the text of the meshes behind the head of a shot
headed : (number : ℕ) (bases : Bases) (settings : Settings) (events : List Event)
    (meshes : List Mesh) (head : List ℕ) → head ≡ [] ++ shot_head number (length events)
    → head ++ meshes_with_normals (normal_of settings.depth (sample settings events)) bases meshes
    ≡ normals_text number bases settings events meshes
headed number bases settings events meshes head is =
    ap (λ t. t ++ meshes_with_normals (normal_of settings.depth (sample settings events)) bases
    meshes) is

pub returns-in_err-count-clause-stopped : goal.returns-in_err-count-clause-stopped
returns-in_err-count-clause-stopped g c =
    let residual = c.from_residual-in_err-count in
    let p = err_from_is_err_and residual.result residual.ensures.1 in
    let frame = c.args.frame.now in
    let stopped = subst (λ t. StopsWriting c.in_err-count.field-0.0
    (g.K.Sink.state c.args.sink.now) (g.K.Sink.state c.write_meshes.new.sink) t)
    (headed c.args.number c.args.bases frame.settings frame.events
    (scratch frame.settings frame.events) c.push_shot_head.new.out.items
    (grind (arith, common_steps))) c.in_err-count.ensures.stopped in
    let own = subst (λ meshes. StopsWriting c.in_err-count.field-0.0
    (g.K.Sink.state c.args.sink.now) (g.K.Sink.state c.write_meshes.new.sink)
    (normals_text c.args.number c.args.bases frame.settings frame.events meshes))
    (sym (c.sound_frames_have_no_crack.ensures.meshes frame c.requires.sound)) stopped in
    rw (p.1, p.2) own

pub returns-in_err-put_all-clause-stopped : goal.returns-in_err-put_all-clause-stopped
returns-in_err-put_all-clause-stopped g c =
    let residual = c.from_residual-in_err-put_all in
    let p = err_from_is_err_and residual.result residual.ensures.1 in
    let frame = c.args.frame.now in
    let meshes = scratch frame.settings frame.events in
    let normals = normal_of frame.settings.depth (sample frame.settings frame.events) in
    let state = g.K.Sink.state in
    let mid = state c.write_meshes.new.sink in
    let new = state c.put_all.new.sink in
    let failed : StopsWriting WriteFault mid new c.write_meshes.new.text.items = (
      rw (← c.deref.ensures.value) c.in_err-put_all.ensures.prefix,
      c.in_err-put_all.ensures.failed,
    ) in
    let stopped = subst (λ t. StopsWriting WriteFault (state c.args.sink.now) new t)
    (headed c.args.number c.args.bases frame.settings frame.events meshes
    c.push_shot_head.new.out.items (grind (arith, common_steps)))
    (StopsWriting-rest (state c.args.sink.now) mid new
    (c.push_shot_head.new.out.items ++ meshes_with_normals normals c.args.bases meshes)
    c.write_meshes.new.text.items c.in_ok-count.ensures.text WriteFault failed) in
    let own = subst (λ some. StopsWriting WriteFault (state c.args.sink.now) new
    (normals_text c.args.number c.args.bases frame.settings frame.events some))
    (sym (c.sound_frames_have_no_crack.ensures.meshes frame c.requires.sound)) stopped in
    rw (p.1, p.2) own

pub returns-clause-text : goal.returns-clause-text
returns-clause-text g c =
    let frame = c.args.frame.now in
    let meshes = scratch frame.settings frame.events in
    let state = g.K.Sink.state in
    let old = state c.args.sink.now in
    let new = state c.put_all.new.sink in
    let first = c.in_ok-count.ensures.text in
    let last = subst (Appends (state c.write_meshes.new.sink) new) c.deref.ensures.value
    c.in_ok-put_all.ensures.appended in
    let all = Appends-trans old (state c.write_meshes.new.sink) new first.front
    c.write_meshes.new.text.items first.appended last in
    let text : first.front ++ c.write_meshes.new.text.items
    ≡ normals_text c.args.number c.args.bases frame.settings frame.events meshes =
    sym first.parts
    ∙ headed c.args.number c.args.bases frame.settings frame.events meshes
    c.push_shot_head.new.out.items (grind (arith, common_steps)) in
    subst (Appends old new) (text
    ∙ ap (normals_text c.args.number c.args.bases frame.settings frame.events)
    (sym (c.sound_frames_have_no_crack.ensures.meshes frame c.requires.sound))) all
