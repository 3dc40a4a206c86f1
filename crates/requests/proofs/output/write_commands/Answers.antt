-- What the commands so far wrote.
use Rattle.std.proofs.Common.{◌+◌, ◌∙◌, ap, arith, drop, get_or, length, length-append, subst, sym}
use Rattle.std.proofs.lemmas.Result.{err_from_is_err_and}
use Rattle.terrain.specs.declared.brush.Mode.TheVariants.{Fill}
use Rattle.terrain.specs.declared.brush.Brush.TheVariants.{Cuboid}
use Rattle.terrain.specs.declared.event.Event.TheVariants.{Edit}
use Rattle.camera_script.specs.declared.commands.Command.{Command}
use Rattle.camera_script.specs.declared.commands.Command.TheVariants.{Event}
use Rattle.script_play.specs.Output.{output}
use Rattle.script_play.specs.Script.{NoneIsBare, events_by}
use Rattle.script_play.proofs.EngineLemmas.{Writes-next, Writes-start, Writes-stops, edits-here, events-here}
use Rattle.requests.proofs.output.write_commands.Goals as goal

-- what a list of commands is read as past its end
past_end : Command
past_end =
    Event (Edit (Cuboid Fill (record { z = 0; y = 0; x = 0 }) (record { z = 0; y = 0; x = 0 })))

pub loop-command-init : goal.loop-command-init
loop-command-init g c =
    let started = c.requires.fresh in record {
      writes = Writes-start (g.K.Sink.state c.args.sink.now) c.args.settings.now
          c.args.commands.now c.args.engine.now started.settings started.events started.shot
          started.bases;
      room = record {
        shot = omega (arith, started.shot);
        few = omega arith;
      };
      settings = started.settings;
      events = omega (arith, ap length started.events, c.requires.room);
      edits = subst (λ events. NoneIsBare events c.args.commands.now) (sym started.events)
          c.requires.edits;
    }

pub carry_out-requires-clause-edit : goal.carry_out-requires-clause-edit
unfolding past_end
carry_out-requires-clause-edit g c =
    let loop = c.loop-command in
    λ lives outlive. (edits-here c.args.commands.now loop.command-index past_end
    c.loop-command-test.true loop.engine.board.world.events loop.invariant.edits).0

pub returns-in_err-carry_out-clause-stopped : goal.returns-in_err-carry_out-clause-stopped
unfolding past_end
returns-in_err-carry_out-clause-stopped g c =
    let state = g.K.Sink.state in
    let loop = c.loop-command in
    let residual = c.from_residual in
    let p = err_from_is_err_and residual.result residual.ensures.1 in
    rw (p.1, p.2) (Writes-stops c.args.commands.now loop.command-index past_end
    c.loop-command-test.true (state c.args.sink.now) (state loop.sink)
    (state c.carry_out.new.sink) (output c.args.settings.now c.args.commands.now) loop.engine
    c.in_err-carry_out.field-0.0 loop.invariant.writes c.in_err-carry_out.ensures.stopped)

pub loop-command-preserved : goal.loop-command-preserved
unfolding past_end
loop-command-preserved g c =
    let state = g.K.Sink.state in
    let loop = c.loop-command in
    let done = c.in_ok-carry_out.ensures in
    let command = get_or c.args.commands.now loop.command-index past_end in
    let room = loop.invariant.room in record {
      writes = Writes-next c.args.commands.now loop.command-index past_end
          c.loop-command-test.true (state c.args.sink.now) (state loop.sink)
          (state c.carry_out.new.sink) (output c.args.settings.now c.args.commands.now)
          loop.engine c.carry_out.new.self loop.invariant.writes done.carried;
      room = record {
        shot = omega (arith, room.shot, done.shots);
        few = omega (arith, c.requires.few, c.loop-command-test.true);
      };
      settings = done.settings ∙ loop.invariant.settings;
      events = omega (
        arith,
        ap length done.events,
        length-append loop.engine.board.world.events (events_by command),
        loop.invariant.events,
        events-here c.args.commands.now loop.command-index past_end c.loop-command-test.true,
      );
      edits = subst
          (λ events. NoneIsBare events (drop (loop.command-index + 1) c.args.commands.now))
          (sym done.events) (edits-here c.args.commands.now loop.command-index past_end
          c.loop-command-test.true loop.engine.board.world.events loop.invariant.edits).1;
    }
