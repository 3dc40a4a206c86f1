-- Where memory runs out for the engine, nothing was read or written.
use Rattle.std.proofs.lemmas.Result.{err_from_is_err_and}
use Rattle.requests.specs.Texts.{text_of}
use Rattle.script_play.proofs.PlayLemmas.{plays_no_engine}
use Rattle.requests.proofs.player.play_beside_watchers.Goals as goal

pub returns-in_err-engine : goal.returns-in_err-engine
returns-in_err-engine g c =
    let residual = c.from_residual in
    let p = err_from_is_err_and residual.result residual.ensures.1 in
    rw (p.1, p.2) (plays_no_engine c.args.settings.now c.args.input.now (text_of c.args.options)
    (g.S.Source.state c.args.source.now) (g.K.Sink.state c.args.sink.now) c.requires.counts
    c.requires.end)
