-- What stops an output stops all that is left, and an event writes nothing.
use Rattle.std.proofs.Common.{◌+◌}
use Rattle.std.proofs.lemmas.Result.{err_from_is_err_and}
use Rattle.mesh_out.proofs.WritingLemmas.{StopsWriting-none}
use Rattle.snapshots.specs.Stats.{stats_of}
use Rattle.mesh_out.specs.Text.{stats_text}
use Rattle.script_play.specs.Output.{bases_after, output_after, pick_after, shot_after}
use Rattle.terrain.specs.Blocks.{scratch}
use Rattle.script_play.proofs.EngineLemmas.{stops-longer}
use Rattle.script_play.proofs.engine.Engine.carry_out.Goals as goal

pub returns-in-Shot-clause-stopped : goal.returns-in-Shot-clause-stopped
returns-in-Shot-clause-stopped g c =
    let engine = c.args.self.now in
    let world = engine.board.world in
    let normals = c.in-Shot.normals in
    rw c.in-Shot.is (stops-longer c.shoot.result _ _
    (shot_after world.settings world.events engine.shot engine.bases normals)
    (output_after world.settings world.events (engine.shot + 1)
    (bases_after engine.bases normals (scratch world.settings world.events)))
    c.shoot.ensures.stopped)

pub returns-in-Stats-clause-stopped : goal.returns-in-Stats-clause-stopped
returns-in-Stats-clause-stopped g c =
    let engine = c.args.self.now in
    let world = engine.board.world in
    rw c.in-Stats.is (stops-longer c.tell.result _ _
    (stats_text (stats_of (scratch world.settings world.events)))
    (output_after world.settings world.events engine.shot engine.bases) c.tell.ensures.stopped)

pub returns-in-Pick-clause-stopped : goal.returns-in-Pick-clause-stopped
returns-in-Pick-clause-stopped g c =
    let engine = c.args.self.now in
    let world = engine.board.world in
    rw c.in-Pick.is (stops-longer c.pick.result _ _
    (pick_after world.settings world.events c.in-Pick.x c.in-Pick.y)
    (output_after world.settings world.events engine.shot engine.bases) c.pick.ensures.stopped)

pub returns-in_err-apply_lawful-in-Event-clause-stopped :
    goal.returns-in_err-apply_lawful-in-Event-clause-stopped
returns-in_err-apply_lawful-in-Event-clause-stopped g c =
    let residual = c.from_residual in
    let p = err_from_is_err_and residual.result residual.ensures.1 in
    rw (p.1, p.2) (λ rest. StopsWriting-none (g.K.Sink.state c.args.sink.now) _)
