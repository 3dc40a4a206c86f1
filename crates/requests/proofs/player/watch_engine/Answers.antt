-- By how the lines were carried out, and then the writing of the line of the watchers.
use Rattle.std.proofs.Common.{◌≡◌, ap, rules, subst}
use Rattle.std.specs.Prelude.{vec_len}
use Rattle.std.proofs.lemmas.Result.{err_from_is_err_and}
use Rattle.script_play.specs.Play.{PlaysLines, output_alone}
use Rattle.requests.proofs.ClosingLemmas.{all_tell, plays_closed, plays_half_closed, plays_same, plays_unclosed}
use Rattle.requests.proofs.player.watch_engine.Goals as goal

pub write_watch_line-requires-clause-watchers : goal.write_watch_line-requires-clause-watchers
write_watch_line-requires-clause-watchers g c = λ κs lives.
    all_tell _ vec_len (vec_len c.args.viewers) c.args.options.watchers
    c.watch_beside-told.ensures.watchers c.requires.viewers

pub returns-in_err-write_watch_line-in-Done : goal.returns-in_err-write_watch_line-in-Done
returns-in_err-write_watch_line-in-Done g c =
    let source = g.S.Source.state in
    let sink = g.K.Sink.state in
    let done = c.watch_beside-told in
    let same_source : done.new.work.5.now ≡ c.source-1.given.0 = search rules in
    let same_sink : done.new.work.6.now ≡ c.sink-1.given.0 = search rules in
    let lines = plays_same c.args.settings.now c.args.input.now (source c.args.source.now) _ _
    (sink c.args.sink.now) _ _ (ap source same_source) (ap sink same_sink) c.of.ensures
    done.ensures.work.met.1 in
    let residual = c.from_residual in
    let p = err_from_is_err_and residual.result residual.ensures.1 in
    rw (p.1, p.2) (plays_half_closed c.args.options c.args.settings.now c.args.input.now
    (source c.args.source.now) (source c.source-1.given.0) (sink c.args.sink.now)
    (sink c.sink-1.given.0) (sink c.write_watch_line.new.sink)
    (subst (PlaysLines c.args.settings.now c.args.input.now output_alone (source c.args.source.now)
    (source c.source-1.given.0) (sink c.args.sink.now) (sink c.sink-1.given.0)) c.in-Done.is lines)
    c.in_err-write_watch_line-in-Done.field-0.0
    c.in_err-write_watch_line-in-Done.ensures.stopped)

pub returns-in_ok-write_watch_line-in-Done : goal.returns-in_ok-write_watch_line-in-Done
returns-in_ok-write_watch_line-in-Done g c =
    let source = g.S.Source.state in
    let sink = g.K.Sink.state in
    let done = c.watch_beside-told in
    let same_source : done.new.work.5.now ≡ c.source-1.given.0 = search rules in
    let same_sink : done.new.work.6.now ≡ c.sink-1.given.0 = search rules in
    let lines = plays_same c.args.settings.now c.args.input.now (source c.args.source.now) _ _
    (sink c.args.sink.now) _ _ (ap source same_source) (ap sink same_sink) c.of.ensures
    done.ensures.work.met.1 in
    plays_closed c.args.options c.args.settings.now c.args.input.now (source c.args.source.now)
    (source c.source-1.given.0) (sink c.args.sink.now) (sink c.sink-1.given.0)
    (sink c.write_watch_line.new.sink)
    (subst (PlaysLines c.args.settings.now c.args.input.now output_alone (source c.args.source.now)
    (source c.source-1.given.0) (sink c.args.sink.now) (sink c.sink-1.given.0)) c.in-Done.is lines)
    c.in_ok-write_watch_line-in-Done.ensures.text
    c.in_ok-write_watch_line-in-Done.ensures.faultless

pub returns-in_default : goal.returns-in_default
returns-in_default g c =
    let source = g.S.Source.state in
    let sink = g.K.Sink.state in
    let done = c.watch_beside-told in
    let same_source : done.new.work.5.now ≡ c.source-1.given.0 = search rules in
    let same_sink : done.new.work.6.now ≡ c.sink-1.given.0 = search rules in
    let lines = plays_same c.args.settings.now c.args.input.now (source c.args.source.now) _ _
    (sink c.args.sink.now) _ _ (ap source same_source) (ap sink same_sink) c.of.ensures
    done.ensures.work.met.1 in
    plays_unclosed c.args.options c.args.settings.now c.args.input.now
    (source c.args.source.now) (source c.source-1.given.0) (sink c.args.sink.now)
    (sink c.sink-1.given.0) c.of.result c.in_default.not-Done lines
