-- What the commands so far wrote.
use Rattle.std.proofs.Common.{◌≡◌, ◌+◌, ◌≤◌, drop, length}
use Rattle.terrain.specs.declared.event.TheConstants.{MAX_EVENTS}
use Rattle.mesh_out.specs.Writing.{Writes}
use Rattle.script_play.specs.Engine.{FitsAfter, left_to_write}
use Rattle.script_play.specs.Output.{output}
use Rattle.script_play.specs.Script.{NoneIsBare, events_of}
use Rattle.requests.proofs.output.write_commands.Given as goal

abbrev pub invariant-loop-command : goal.invariant-loop-command
invariant-loop-command g l = record {
  writes : Writes (g.K.Sink.state l.fn.sink) (g.K.Sink.state l.sink) (output l.settings l.commands)
      (left_to_write l.engine (drop l.command-index l.commands));
  room : FitsAfter l.engine l.command-index;
  settings : l.engine.board.world.settings ≡ l.settings;
  events : length l.engine.board.world.events
      + length (events_of (drop l.command-index l.commands)) ≤ MAX_EVENTS;
  edits : NoneIsBare l.engine.board.world.events (drop l.command-index l.commands);
}
