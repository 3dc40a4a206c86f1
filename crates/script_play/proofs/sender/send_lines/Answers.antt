-- Where memory runs out nothing is written.
use Rattle.std.proofs.lemmas.Result.{err_from_is_err_and}
use Rattle.script_play.specs.Play.{wire_alone}
use Rattle.script_play.proofs.PlayLemmas.{plays_no_engine}
use Rattle.script_play.proofs.sender.send_lines.Goals as goal

pub returns-in_err-sender : goal.returns-in_err-sender
returns-in_err-sender g c =
    let p = err_from_is_err_and c.from_residual.result c.from_residual.ensures.1 in
    rw (p.1, p.2) (plays_no_engine c.args.settings.now c.args.input.now wire_alone
    (g.S.Source.state c.args.source.now) (g.K.Sink.state c.args.sink.now) c.requires.counts
    c.requires.end)
