-- Where memory runs out before the first line, nothing was read or written; else it is as a player or a sender has it.
use Rattle.std.proofs.Common.{subst, sym}
use Rattle.std.proofs.lemmas.Result.{err_from_is_err_and}
use Rattle.script_play.specs.Play.{PlaysLines}
use Rattle.script_play.specs.Statuses.{status_from}
use Rattle.requests.specs.Texts.{text_in}
use Rattle.script_play.proofs.PlayLemmas.{plays_no_engine}
use Rattle.requests.proofs.play.play.Goals as goal

pub returns-in_err-cases : goal.returns-in_err-cases
returns-in_err-cases g c =
    let p = err_from_is_err_and c.from_residual.result c.from_residual.ensures.1 in
    rw (p.1, p.2) (plays_no_engine c.args.settings c.args.input.now (text_in c.args.form)
    (g.S.Source.state c.args.source.now) (g.K.Sink.state c.args.sink.now) c.requires.counts
    c.requires.end)

pub returns-in-Wire : goal.returns-in-Wire
returns-in-Wire g c =
    subst (λ form. PlaysLines c.args.settings c.args.input.now (text_in form)
    (g.S.Source.state c.args.source.now) (g.S.Source.state c.send_lines.new.source)
    (g.K.Sink.state c.args.sink.now) (g.K.Sink.state c.send_lines.new.sink)
    (status_from c.send_lines.result)) (sym c.in-Wire.is) c.send_lines.ensures

pub returns : goal.returns
returns g c =
    subst (λ form. PlaysLines c.args.settings c.args.input.now (text_in form)
    (g.S.Source.state c.args.source.now) (g.S.Source.state c.play.new.source)
    (g.K.Sink.state c.args.sink.now) (g.K.Sink.state c.play.new.sink)
    (status_from c.play.result)) (sym c.in-Text.is) c.play.ensures
