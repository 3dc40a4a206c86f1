-- Where memory runs out nothing more is written.
use Rattle.std.proofs.Common.{◌++◌}
use Rattle.std.proofs.lemmas.Result.{err_from_is_err_and}
use Rattle.mesh_out.proofs.WritingLemmas.{StopsWriting-none}
use Rattle.terrain.specs.History.{sample}
use Rattle.surface_normals.specs.Normals.{normal_of}
use Rattle.surface_query.specs.NormalText.{mesh_with_normals}
use Rattle.surface_query.proofs.shots.write_mesh.Goals as goal

pub returns-in_err-push_mesh-clause-stopped : goal.returns-in_err-push_mesh-clause-stopped
returns-in_err-push_mesh-clause-stopped g c =
    let frame = c.args.frame.now in
    let p = err_from_is_err_and c.from_residual.result c.from_residual.ensures.1 in
    rw (p.1, p.2) (λ m at shows. StopsWriting-none (g.K.Sink.state c.args.sink.now)
    (c.args.text.now.items ++ mesh_with_normals
    (normal_of frame.settings.depth (sample frame.settings frame.events)) c.args.bases m))
