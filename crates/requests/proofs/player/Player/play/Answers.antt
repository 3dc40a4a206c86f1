-- What the lines wrote beside the helpers.
use Rattle.std.proofs.Common.{◌≡◌, ap, rules}
use Rattle.std.proofs.lemmas.Result.{err_from_is_err_and}
use Rattle.requests.specs.Texts.{text_of}
use Rattle.requests.proofs.ClosingLemmas.{plays_there}
use Rattle.script_play.proofs.PlayLemmas.{plays_no_engine}
use Rattle.requests.proofs.player.Player.play.Goals as goal

pub returns-in_err-posts : goal.returns-in_err-posts
returns-in_err-posts g c =
    let p = err_from_is_err_and c.from_residual.result c.from_residual.ensures.1 in
    rw (p.1, p.2) (plays_no_engine c.args.self.now.settings c.args.input.now
    (text_of c.args.self.now.options) (g.S.Source.state c.args.source.now)
    (g.K.Sink.state c.args.sink.now) c.requires.counts c.requires.end)

pub returns : goal.returns
returns g c =
    let source = g.S.Source.state in
    let sink = g.K.Sink.state in
    let done = c.help_beside in
    let same_source : done.new.other.3.now ≡ c.source-1.given.0 = search rules in
    let same_sink : done.new.other.4.now ≡ c.sink-1.given.0 = search rules in
    plays_there c.args.self.now.settings c.args.input.now (text_of c.args.self.now.options)
    (source c.args.source.now) _ _ (sink c.args.sink.now) _ _ _ (ap source same_source)
    (ap sink same_sink) done.ensures.met.1
