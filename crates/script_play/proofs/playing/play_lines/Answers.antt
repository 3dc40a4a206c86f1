-- By the lines that were carried out so far, and how the next one went.
use Rattle.std.proofs.Common.{◌≡◌, ◌⊎◌, false, true, ap, arith, subst, sym, ◌∙◌}
use Rattle.std.specs.Prelude.{Err, Ok}
use Rattle.std.proofs.lemmas.Result.{err_from_is_err_and}
use Rattle.camera_script.specs.declared.fault.LineFault.TheVariants.{NoMemory}
use Rattle.camera_script.specs.Reading.{command_reading}
use Rattle.terra_events.specs.World.{WorldState}
use Rattle.script_play.specs.Input.{this_line}
use Rattle.script_play.specs.Script.{has_room, is_bare}
use Rattle.script_play.proofs.PlayLemmas.{numbers_grow, plays_bare, plays_end, plays_full, plays_refused, plays_stopped, plays_stops, SoFar-carried, SoFar-line, SoFar-start}
use Rattle.script_play.proofs.playing.play_lines.Goals as goal

pub loop-input-init : goal.loop-input-init
loop-input-init g c =
    let started = c.requires.fresh in record {
      so_far = SoFar-start c.args.settings.now c.args.input.now
          (g.S.Source.state c.args.source.now) (g.K.Sink.state c.args.sink.now)
          (g.X.Executor.state c.args.executor.now) started.events started.ends;
      settings = started.settings;
      shots = omega (arith, started.shot, c.requires.number);
      counts = c.requires.counts;
    }

pub returns-in_err-advance : goal.returns-in_err-advance
returns-in_err-advance g c =
    let source = g.S.Source.state in
    let sink = g.K.Sink.state in
    let executor = g.X.Executor.state in
    let write = (executor c.args.executor.now).left in
    let loop = c.loop-input in
    let goes = c.in_err-advance.ensures.goes_on in
    let residual = c.from_residual in
    let p = err_from_is_err_and residual.result residual.ensures.1 in
    rw (p.1, p.2) (plays_stops c.args.settings.now c.args.input.now loop.input c.advance.new.self
    (source c.args.source.now) (source loop.source) (source c.advance.new.source)
    (sink c.args.sink.now) (sink loop.sink) write
    (executor loop.executor) goes.0 loop.invariant.so_far
    goes.1 c.advance.ensures.counts c.requires.end c.in_err-advance.field-0.0 goes.2)

pub returns-in-Err : goal.returns-in-Err
returns-in-Err g c =
    let source = g.S.Source.state in
    let sink = g.K.Sink.state in
    let executor = g.X.Executor.state in
    let write = (executor c.args.executor.now).left in
    let loop = c.loop-input in
    let rules = c.args.settings.now in
    let line = SoFar-line rules c.args.input.now loop.input c.advance.new.self
    (source c.args.source.now) (source loop.source) (source c.advance.new.source)
    (sink c.args.sink.now) (sink loop.sink) write (executor loop.executor) loop.invariant.so_far
    c.in_ok-advance.field-0 c.in_ok-advance.ensures.goes_on c.if-branch.true in
    let reads = subst (λ t. (c.in-Err.fault ≡ NoMemory)
    ⊎ (command_reading rules.depth t ≡ Err c.in-Err.fault)) c.line.ensures
    c.in-Err.ensures.reading in
    rw (c.refused_status.ensures, c.number.ensures) (plays_refused rules c.args.input.now
    c.advance.new.self (source c.args.source.now) (source c.advance.new.source)
    (sink c.args.sink.now) (sink loop.sink) write (executor loop.executor) c.in-Err.fault line
    c.advance.ensures.counts c.requires.end reads)

pub returns-then-not-has_room : goal.returns-then-not-has_room
returns-then-not-has_room g c =
    let source = g.S.Source.state in
    let sink = g.K.Sink.state in
    let executor = g.X.Executor.state in
    let write = (executor c.args.executor.now).left in
    let loop = c.loop-input in
    let rules = c.args.settings.now in
    let command = c.in-Ok.command in
    let line = SoFar-line rules c.args.input.now loop.input c.advance.new.self
    (source c.args.source.now) (source loop.source) (source c.advance.new.source)
    (sink c.args.sink.now) (sink loop.sink) write (executor loop.executor) loop.invariant.so_far
    c.in_ok-advance.field-0 c.in_ok-advance.ensures.goes_on c.if-branch.true in
    let reads = subst (λ t. command_reading rules.depth t ≡ Ok command) c.line.ensures
    c.in-Ok.ensures.reading in
    let full : has_room (executor loop.executor).world.events command ≡ false =
    ap (λ (world : WorldState). has_room world.events command) (sym c.world.ensures)
    ∙ sym c.has_room.ensures ∙ c.if-not-has_room.true in
    rw c.number-then-not-has_room.ensures (plays_full rules c.args.input.now c.advance.new.self
    (source c.args.source.now) (source c.advance.new.source) (sink c.args.sink.now)
    (sink loop.sink) write (executor loop.executor) command line c.advance.ensures.counts
    c.requires.end reads
    full)

pub returns-then-is_bare : goal.returns-then-is_bare
returns-then-is_bare g c =
    let source = g.S.Source.state in
    let sink = g.K.Sink.state in
    let executor = g.X.Executor.state in
    let write = (executor c.args.executor.now).left in
    let loop = c.loop-input in
    let rules = c.args.settings.now in
    let command = c.in-Ok.command in
    let line = SoFar-line rules c.args.input.now loop.input c.advance.new.self
    (source c.args.source.now) (source loop.source) (source c.advance.new.source)
    (sink c.args.sink.now) (sink loop.sink) write (executor loop.executor) loop.invariant.so_far
    c.in_ok-advance.field-0 c.in_ok-advance.ensures.goes_on c.if-branch.true in
    let reads = subst (λ t. command_reading rules.depth t ≡ Ok command) c.line.ensures
    c.in-Ok.ensures.reading in
    let room : has_room (executor loop.executor).world.events command ≡ true =
    ap (λ (world : WorldState). has_room world.events command) (sym c.world.ensures)
    ∙ sym c.has_room.ensures ∙ c.if-not-has_room.false in
    let bare : is_bare (executor loop.executor).world.events command ≡ true =
    ap (λ (world : WorldState). is_bare world.events command) (sym c.world-in-loop-input.ensures)
    ∙ sym c.is_bare.ensures ∙ c.if-is_bare.true in
    rw c.number-then-is_bare.ensures (plays_bare rules c.args.input.now c.advance.new.self
    (source c.args.source.now) (source c.advance.new.source) (sink c.args.sink.now)
    (sink loop.sink) write (executor loop.executor) command line c.advance.ensures.counts
    c.requires.end reads
    room bare)

pub loop-input-preserved : goal.loop-input-preserved
loop-input-preserved g c =
    let source = g.S.Source.state in
    let sink = g.K.Sink.state in
    let executor = g.X.Executor.state in
    let write = (executor c.args.executor.now).left in
    let loop = c.loop-input in
    let rules = c.args.settings.now in
    let command = c.in-Ok.command in
    let done = c.in_ok-execute.ensures in
    let invariant = loop.invariant in
    let room : has_room (executor loop.executor).world.events command ≡ true =
    ap (λ (world : WorldState). has_room world.events command) (sym c.world.ensures)
    ∙ sym c.has_room.ensures ∙ c.if-not-has_room.false in
    let edit : is_bare (executor loop.executor).world.events command ≡ false =
    ap (λ (world : WorldState). is_bare world.events command) (sym c.world-in-loop-input.ensures)
    ∙ sym c.is_bare.ensures ∙ c.if-is_bare.false in
    let grows = numbers_grow rules c.args.input.now loop.input c.advance.new.self
    (source c.args.source.now) (source loop.source) (source c.advance.new.source)
    (sink c.args.sink.now) (sink loop.sink) write (executor loop.executor) invariant.so_far
    c.in_ok-advance.field-0 c.in_ok-advance.ensures.goes_on c.if-branch.true in
    let line = SoFar-line rules c.args.input.now loop.input c.advance.new.self
    (source c.args.source.now) (source loop.source) (source c.advance.new.source)
    (sink c.args.sink.now) (sink loop.sink) write (executor loop.executor) invariant.so_far
    c.in_ok-advance.field-0 c.in_ok-advance.ensures.goes_on c.if-branch.true in
    let reads = subst (λ t. command_reading rules.depth t ≡ Ok command) c.line.ensures
    c.in-Ok.ensures.reading in record {
      so_far = SoFar-carried rules c.args.input.now c.advance.new.self
          (source c.args.source.now) (source c.advance.new.source) (sink c.args.sink.now)
          (sink loop.sink) (sink c.execute.new.sink) write (executor loop.executor)
          (executor c.execute.new.self)
          (this_line c.advance.new.self) command line reads room edit done.events done.carried
          done.ends;
      settings = done.settings ∙ invariant.settings;
      shots = omega (arith, done.shots, invariant.shots, grows);
      counts = c.advance.ensures.counts;
    }

pub returns-in_err-execute : goal.returns-in_err-execute
returns-in_err-execute g c =
    let source = g.S.Source.state in
    let sink = g.K.Sink.state in
    let executor = g.X.Executor.state in
    let write = (executor c.args.executor.now).left in
    let loop = c.loop-input in
    let rules = c.args.settings.now in
    let command = c.in-Ok.command in
    let line = SoFar-line rules c.args.input.now loop.input c.advance.new.self
    (source c.args.source.now) (source loop.source) (source c.advance.new.source)
    (sink c.args.sink.now) (sink loop.sink) write (executor loop.executor) loop.invariant.so_far
    c.in_ok-advance.field-0 c.in_ok-advance.ensures.goes_on c.if-branch.true in
    let reads = subst (λ t. command_reading rules.depth t ≡ Ok command) c.line.ensures
    c.in-Ok.ensures.reading in
    let room : has_room (executor loop.executor).world.events command ≡ true =
    ap (λ (world : WorldState). has_room world.events command) (sym c.world.ensures)
    ∙ sym c.has_room.ensures ∙ c.if-not-has_room.false in
    let edit : is_bare (executor loop.executor).world.events command ≡ false =
    ap (λ (world : WorldState). is_bare world.events command) (sym c.world-in-loop-input.ensures)
    ∙ sym c.is_bare.ensures ∙ c.if-is_bare.false in
    let residual = c.from_residual-in_err-execute in
    let p = err_from_is_err_and residual.result residual.ensures.1 in
    rw (p.1, p.2) (plays_stopped rules c.args.input.now c.advance.new.self
    (source c.args.source.now) (source c.advance.new.source) (sink c.args.sink.now)
    (sink loop.sink) write (executor loop.executor) (this_line c.advance.new.self) command line
    c.advance.ensures.counts c.requires.end reads room edit (sink c.execute.new.sink)
    c.in_err-execute.field-0.0 c.in_err-execute.ensures.stopped)

pub returns : goal.returns
returns g c =
    let source = g.S.Source.state in
    let sink = g.K.Sink.state in
    let executor = g.X.Executor.state in
    let write = (executor c.args.executor.now).left in
    let loop = c.loop-input in
    plays_end c.args.settings.now c.args.input.now loop.input c.advance.new.self
    (source c.args.source.now) (source loop.source) (source c.advance.new.source)
    (sink c.args.sink.now) (sink loop.sink) write (executor loop.executor) loop.invariant.so_far
    c.in_ok-advance.field-0 c.in_ok-advance.ensures.goes_on c.advance.ensures.counts
    c.requires.end c.if-branch.false
