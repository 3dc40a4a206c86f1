-- What an engine before any event has left to write is the output.
use Rattle.std.proofs.Common.{[], arith, refl}
use Rattle.script_play.specs.Engine.{left_to_write}
use Rattle.script_play.specs.Play.{output_alone}
use Rattle.script_play.specs.Statuses.{status_from}
use Rattle.script_play.proofs.BehindLemmas.{left-is, plays-behind}
use Rattle.mesh_out.proofs.WritingLemmas.{Appends-none}
use Rattle.script_play.proofs.playing.play_by_engine.Goals as goal

pub play_lines-requires-clause-fresh : goal.play_lines-requires-clause-fresh
play_lines-requires-clause-fresh g c = λ lives outlive. record {
  settings = c.requires.fresh.settings;
  events = c.requires.fresh.events;
  shot = omega (arith, c.requires.fresh.shot);
  ends = refl;
}

pub returns : goal.returns
returns g c =
    let sink = g.K.Sink.state in
    let source = g.S.Source.state in
    plays-behind c.args.settings.now c.args.input.now [] (left_to_write c.args.engine.now)
    output_alone (left-is c.args.settings.now c.args.engine.now c.requires.fresh)
    (source c.args.source.now) (source c.play_lines.new.source) (sink c.args.sink.now)
    (sink c.args.sink.now) (sink c.play_lines.new.sink) (status_from c.play_lines.result)
    (Appends-none (sink c.args.sink.now)) refl c.play_lines.ensures
