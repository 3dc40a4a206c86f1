-- Where memory runs out for the engine, nothing is written.
use Rattle.std.proofs.lemmas.Result.{err_from_is_err_and}
use Rattle.mesh_out.proofs.WritingLemmas.{StopsWriting-none}
use Rattle.script_play.specs.Output.{output}
use Rattle.requests.proofs.output.write_by_pool.Goals as goal

pub returns-in_err-engine-clause-stopped : goal.returns-in_err-engine-clause-stopped
returns-in_err-engine-clause-stopped g c =
    let residual = c.from_residual in
    let p = err_from_is_err_and residual.result residual.ensures.1 in
    rw (p.1, p.2) (StopsWriting-none (g.K.Sink.state c.args.sink.now)
    (output c.args.settings.now c.args.commands.now))
