-- The head comes first, and behind it what a sender before any event has left to send.
use Rattle.std.proofs.Common.{[]}
use Rattle.replicas.specs.Grammar.{head_bytes}
use Rattle.script_play.specs.Statuses.{status_from}
use Rattle.script_play.specs.Play.{wire_alone}
use Rattle.script_play.specs.Sender.{left_to_send}
use Rattle.script_play.specs.Wire.{wire_after}
use Rattle.script_play.proofs.BehindLemmas.{plays-behind, plays_no_front}
use Rattle.script_play.proofs.SenderLemmas.{fails-told, sent-is, succeeds-told, wire-is}
use Rattle.script_play.proofs.sender.send_all.Goals as goal

pub returns-then-is_err : goal.returns-then-is_err
returns-then-is_err g c =
    let rules = c.args.settings.now in
    let sink = g.K.Sink.state in
    plays_no_front rules c.args.input.now (head_bytes rules) (wire_after rules [] [])
    wire_alone (wire-is rules) (g.S.Source.state c.args.source.now)
    (sink c.args.sink.now) (sink c.put_head.new.sink)
    (fails-told c.put_head.result c.is_err.ensures.value c.if-is_err.true
    c.put_head.ensures.stopped) c.requires.counts c.requires.end

pub returns : goal.returns
returns g c =
    let rules = c.args.settings.now in
    let source = g.S.Source.state in
    let sink = g.K.Sink.state in
    let board = c.args.sender.now in
    plays-behind rules c.args.input.now (head_bytes rules) (left_to_send board)
    wire_alone (sent-is rules board c.requires.fresh)
    (source c.args.source.now) (source c.play_lines.new.source) (sink c.args.sink.now)
    (sink c.put_head.new.sink) (sink c.play_lines.new.sink) (status_from c.play_lines.result)
    (succeeds-told c.put_head.result c.is_err.ensures.value c.if-is_err.false
    c.put_head.ensures.appended)
    (succeeds-told c.put_head.result c.is_err.ensures.value c.if-is_err.false
    c.put_head.ensures.faultless) c.play_lines.ensures
