-- A script is carried out line by line, and what was written is what the lines say that were read: the loop of `play`,
-- and each way in which it ends. docs/tour.md has the walk.
-- SoFar is what the loop keeps: which bytes were read, which lines passed, which commands they say, and that their
-- output was written, so that whatever comes is said behind these commands. It is kept by the next line (SoFar-advance)
-- and by a command that is carried out (SoFar-carried). Each end is a row of the table of statuses: a refused line, a
-- full journal, an undo of nothing, a command that stopped, the end of the input, a reading that stopped (those named
-- plays). All that were written exactly go by plays_exact, which asks for what is said behind the commands so far and
-- for the row.
use Rattle.std.proofs.Common.{◌≡◌, ◌≢◌, ℕ, ◌+◌, ◌<◌, ◌⊎◌, Bool, true, false, List, [], ◌∷◌, ◌++◌, length, refl, sym, ap, subst, ◌∙◌, arith, append_assoc, length-append, inl, inr}
use Rattle.std.specs.Prelude.{Option, Some, None, Result, Ok, Err}
use Rattle.std.specs.Io.KnownBytes.{IsAtEnd}
use Rattle.std.proofs.lemmas.Bool.{cases_Bool, true≢false}
use Rattle.std.proofs.lemmas.List.{append-nil}
use Rattle.lattice.specs.declared.settings.Settings.{Settings}
use Rattle.camera_script.specs.declared.commands.Command.{Command}
use Rattle.terrain.specs.declared.event.Event.{Event}
use Rattle.camera_script.specs.declared.fault.LineFault.{LineFault}
use Rattle.camera_script.specs.declared.fault.LineFault.TheVariants as faults
use Rattle.camera_script.specs.declared.json_line.TheConstants.{LINE_LIMIT}
use Rattle.camera_script.specs.Line.{after}
use Rattle.camera_script.specs.Lines.{Numbered}
use Rattle.camera_script.specs.Reading.{command_in, command_reading}
use Rattle.camera_script.proofs.LineLemmas.{line_members_long}
use Rattle.mesh_out.specs.declared.fault.OutFault.{OutFault}
use Rattle.mesh_out.specs.declared.fault.OutFault.TheVariants as out
use Rattle.mesh_out.specs.Writing.{StopsWriting, Writes}
use Rattle.terra_io.specs.Stream.{Stream, AppendsPrefix, IsFaultless}
use Rattle.script_play.specs.declared.refusal.ReadRefusal.{ReadRefusal}
use Rattle.script_play.specs.declared.refusal.ReadRefusal.TheVariants as reading
use Rattle.script_play.specs.declared.status.Status.{Status}
use Rattle.script_play.specs.declared.status.Status.TheVariants.{Done, NoMemory, BadScript, ReadFault, WriteFault, JournalFull, InputLimit, NothingToUndo}
use Rattle.script_play.specs.Executor.{ExecutorState, text_by}
use Rattle.script_play.specs.Input.{AdvancesTo, CountsFit, HasNoLine, InputState, Passes, StartsLongAt, Stops, TakesFor, kept_left, this_line}
use Rattle.script_play.specs.Play.{PlaysLines}
use Rattle.script_play.specs.Statuses.{refused_status, reading_status, writing_status}
use Rattle.script_play.specs.Ending.{Ends, IsCalm, Run, WritesPrefix, WritesText}
use Rattle.script_play.specs.Script.{Bare, Fault, Full, Refusal, Said, command_said, commands_said, end_said, events_after, events_by, events_of, has_room, is_bare, refusal_said}
use Rattle.script_play.proofs.EngineLemmas.{Writes-more}
use Rattle.script_play.proofs.InputLemmas.{CutsLines-none, Passes-none, Passes-then, TakesFor-none, TakesFor-then, open_from_long}
use Rattle.mesh_out.proofs.WritingLemmas.{Appends-none, StopsWriting-rest, Writes-none}
use Rattle.script_play.proofs.StreamLemmas.{Yields-none, IsFaultless-trans, HasFailed-after}

-- ---- commands that were read so far

-- the commands before what is said further on
abbrev pub prefixed : List Command → Said → Said
prefixed commands said = record said { commands = commands ++ said.commands }

-- events with one command more
events_of-more : (commands : List Command) (command : Command)
    → events_of (commands ++ command ∷ []) ≡ events_of commands ++ events_by command
events_of-more [] command = append-nil (events_by command)
events_of-more (c ∷ commands) command =
    ap (λ es. events_by c ++ es) (events_of-more commands command)
    ∙ sym (append_assoc (events_by c) (events_of commands) (events_by command))

-- what a line says that isn't refused
command_said-taken : (settings : Settings) (events : List Event) (line : ℕ) (command : Command)
    (later : Said) → has_room events command ≡ true → is_bare events command ≡ false
    → command_said settings events line (Ok command) later
    ≡ record later { commands = command ∷ later.commands }
command_said-taken settings events line command later room edit = rw (room, edit) refl

-- one for which there is no room
command_said-full : (settings : Settings) (events : List Event) (line : ℕ) (command : Command)
    (later : Said) → has_room events command ≡ false
    → command_said settings events line (Ok command) later ≡ refusal_said settings (Full line)
command_said-full settings events line command later full = rw full refl

-- and one that undoes nothing
command_said-bare : (settings : Settings) (events : List Event) (line : ℕ) (command : Command)
    (later : Said) → has_room events command ≡ true → is_bare events command ≡ true
    → command_said settings events line (Ok command) later ≡ refusal_said settings (Bare line)
command_said-bare settings events line command later room bare = rw (room, bare) refl

-- what lines say is in a world of these settings
command_settings : (settings : Settings) (events : List Event) (line : ℕ)
    (reading : Result Command LineFault) (later : Said) → later.settings ≡ settings
    → (command_said settings events line reading later).settings ≡ settings
command_settings settings events line (Ok command) later same =
    elim (cases_Bool (has_room events command)) [
      | inl room ↦ elim (cases_Bool (is_bare events command)) [
        | inl bare ↦ rw (room, bare) refl
        | inr edit ↦ rw (room, edit) same
      ]
      | inr full ↦ rw full refl
    ]
command_settings settings events line (Err fault) later same = refl

-- and so is all that they say
pub said_settings : (settings : Settings) (events : List Event) (lines : List Numbered)
    → (commands_said settings events lines).settings ≡ settings
said_settings settings events [] = refl
said_settings settings events (line ∷ lines) =
    let reading = command_reading settings.depth line.text in
    command_settings settings events line.number reading
    (commands_said settings (events_after events reading) lines)
    (said_settings settings (events_after events reading) lines)

-- a line leaves the head
command_headed : (settings : Settings) (events : List Event) (line : ℕ)
    (reading : Result Command LineFault) (later : Said) → later.headed ≡ true
    → (command_said settings events line reading later).headed ≡ true
command_headed settings events line (Ok command) later same =
    elim (cases_Bool (has_room events command)) [
      | inl room ↦ elim (cases_Bool (is_bare events command)) [
        | inl bare ↦ rw (room, bare) refl
        | inr edit ↦ rw (room, edit) same
      ]
      | inr full ↦ rw full refl
    ]
command_headed settings events line (Err fault) later same = refl

-- so all that is said behind one has it
pub said_headed : (settings : Settings) (events : List Event) (lines : List Numbered)
    → (commands_said settings events lines).headed ≡ true
said_headed settings events [] = refl
said_headed settings events (line ∷ lines) =
    let reading = command_reading settings.depth line.text in
    command_headed settings events line.number reading
    (commands_said settings (events_after events reading) lines)
    (said_headed settings (events_after events reading) lines)

-- what a line that was read says
said_first : (settings : Settings) (events : List Event) (line : Numbered)
    (later : List Numbered) (reading : Result Command LineFault)
    → command_reading settings.depth line.text ≡ reading
    → commands_said settings events (line ∷ later)
    ≡ command_said settings events line.number reading
    (commands_said settings (events_after events reading) later)
said_first settings events line later reading reads =
    ap (λ r. command_said settings events line.number r
    (commands_said settings (events_after events r) later)) reads

-- a line that is too long
long_reading : (depth : ℕ) (text : List ℕ) → LINE_LIMIT < length text
    → command_reading depth text ≡ Err faults.TooLong
long_reading depth text long = ap (after (command_in depth)) (line_members_long text long)

-- and what is said where it is the first one
pub said_long : (settings : Settings) (events : List Event) (number : ℕ)
    (lines : List Numbered) → StartsLongAt number lines
    → commands_said settings events lines ≡ refusal_said settings (Fault number faults.TooLong)
said_long settings events number [] long = absurd long
said_long settings events number (line ∷ lines) long =
    said_first settings events line lines (Err faults.TooLong)
    (long_reading settings.depth line.text long.1)
    ∙ ap (λ n. refusal_said settings (Fault n faults.TooLong)) long.0

-- what is written of what is said, by what commands write
abbrev pub written_by : (List Command → List ℕ) → Said → List ℕ
written_by write said = write said.commands

-- An input whose lines up to some place were carried out, but for those that are pending
pub record SoFar (settings : Settings) (start input : InputState)
    (source source' sink sink' : Stream) (write : List Command → List ℕ)
    (executor : ExecutorState) (pending : List Numbered)
    : Type 0 where
  pub more : List ℕ
  pub passed : List Numbered
  pub takes : TakesFor start input source source' more
  pub calm : IsFaultless source source'
  pub passes : Passes start input more passed
  pub commands : List Command
  pub reads : (later : List Numbered) → commands_said settings [] (passed ++ later)
      ≡ prefixed commands (commands_said settings (events_of commands) (pending ++ later))
  pub writes : (rest : List Command) → Writes sink sink' (write (commands ++ rest))
      (executor.left rest)
  pub events : executor.world.events ≡ events_of commands
  pub ends : executor.left [] ≡ []

-- the next line came
pub SoFar-advance : (settings : Settings) (start input input' : InputState)
    (source source' source'' sink sink' : Stream) (write : List Command → List ℕ)
    (executor : ExecutorState)
    (pending : List Numbered) (more : List ℕ)
    → SoFar settings start input source source' sink sink' write executor []
    → TakesFor input input' source' source'' more → IsFaultless source' source''
    → Passes input input' more pending
    → SoFar settings start input' source source'' sink sink' write executor pending
SoFar-advance settings start input input' source source' source'' sink sink' write executor
    pending more
    so_far takes calm passes = record {
      more = so_far.more ++ more;
      passed = so_far.passed ++ pending;
      takes = TakesFor-then start input input' source source' source'' so_far.more more so_far.takes
          takes;
      calm = IsFaultless-trans source source' source'' so_far.calm calm;
      passes = Passes-then start input input' so_far.more more so_far.passed pending so_far.passes
          passes;
      commands = so_far.commands;
      reads = λ later. ap (commands_said settings []) (append_assoc so_far.passed pending later)
          ∙ so_far.reads (pending ++ later);
      writes = so_far.writes;
      events = so_far.events;
      ends = so_far.ends;
    }

-- a command was carried out
pub SoFar-carried : (settings : Settings) (start input : InputState)
    (source source' sink sink' sink'' : Stream) (write : List Command → List ℕ)
    (executor executor' : ExecutorState)
    (line : Numbered) (command : Command)
    → SoFar settings start input source source' sink sink' write executor (line ∷ [])
    → command_reading settings.depth line.text ≡ Ok command
    → has_room executor.world.events command ≡ true
    → is_bare executor.world.events command ≡ false
    → executor'.world.events ≡ executor.world.events ++ events_by command
    → ((rest : List Command) → Writes sink' sink'' (executor.left (command ∷ rest))
    (executor'.left rest))
    → executor'.left [] ≡ []
    → SoFar settings start input source source' sink sink'' write executor' []
SoFar-carried settings start input source source' sink sink' sink'' write executor executor' line
    command so_far reads room edit grows carried ends =
    let commands = so_far.commands in
    let events = events_of commands in
    let more = events_of-more commands command in
    let roomy : has_room events command ≡ true =
    ap (λ es. has_room es command) (sym so_far.events) ∙ room in
    let edited : is_bare events command ≡ false =
    ap (λ es. is_bare es command) (sym so_far.events) ∙ edit in
    record {
      more = so_far.more;
      passed = so_far.passed;
      takes = so_far.takes;
      calm = so_far.calm;
      passes = so_far.passes;
      commands = commands ++ command ∷ [];
      reads = λ later.
          let behind = commands_said settings (events ++ events_by command) later in
          so_far.reads later
          ∙ ap (prefixed commands) (said_first settings events line later (Ok command) reads
          ∙ command_said-taken settings events line.number command behind roomy edited)
          ∙ ap (λ cs. record behind { commands = cs })
          (sym (append_assoc commands (command ∷ []) behind.commands))
          ∙ ap (λ es. prefixed (commands ++ command ∷ []) (commands_said settings es later))
          (sym more);
      writes = λ rest.
          let before = subst
          (λ cs. Writes sink sink' (write cs) (executor.left (command ∷ rest)))
          (sym (append_assoc commands (command ∷ []) rest)) (so_far.writes (command ∷ rest)) in
          Writes-more sink sink' sink'' (write ((commands ++ command ∷ []) ++ rest))
          (executor.left (command ∷ rest)) (executor'.left rest) before
          (carried rest);
      events = grows ∙ ap (λ es. es ++ events_by command) so_far.events ∙ sym more;
      ends = ends;
    }

-- nothing was carried out yet
pub SoFar-start : (settings : Settings) (input : InputState) (source sink : Stream)
    (executor : ExecutorState) → executor.world.events ≡ [] → executor.left [] ≡ []
    → SoFar settings input input source source sink sink executor.left executor []
SoFar-start settings input source sink executor none ends = record {
  more = [];
  passed = [];
  takes = TakesFor-none input source;
  calm = refl;
  passes = Passes-none input input [] (CutsLines-none input);
  commands = [];
  reads = λ later. refl;
  writes = λ rest. Writes-none sink (executor.left rest);
  events = none;
  ends = ends;
}

-- ---- how it ends

-- the run of the lines behind a state of the input
abbrev pub run_of : Settings → InputState → Stream → Stream → Stream → Stream → List ℕ → Bool
    → List ℕ → Run
run_of settings start source source' sink sink' more ended appended = record {
  source = source;
  source' = source';
  sink = sink;
  sink' = sink';
  count = length more + start.count;
  ended = ended;
  said = commands_said settings [] (kept_left start ended more);
  appended = appended;
}

module _ (settings : Settings) (start input : InputState) (source source' sink sink' : Stream)
    (write : List Command → List ℕ) (executor : ExecutorState) (pending : List Numbered)
    (so_far : SoFar settings start input source source' sink sink' write executor pending)
    (fits : CountsFit input) (start_ended : start.is_ended ≡ true → IsAtEnd source.bytes) where
  -- what is said of all that was read
  said_is : commands_said settings [] (kept_left start input.is_ended so_far.more)
      ≡ prefixed so_far.commands (commands_said settings (events_of so_far.commands)
      (pending ++ kept_left input input.is_ended []))
  said_is =
      ap (λ t. commands_said settings [] (kept_left start input.is_ended t))
      (sym (append-nil so_far.more))
      ∙ ap (commands_said settings []) (so_far.passes.kept input.is_ended [] (λ is. (is, refl)))
      ∙ so_far.reads (kept_left input input.is_ended [])

  -- the output of the commands so far was written, and what is said after them is this refusal or none
  pub plays_exact : (found : Option Refusal) (status : Status)
      → commands_said settings (events_of so_far.commands)
      (pending ++ kept_left input input.is_ended [])
      ≡ end_said settings found
      → ((run : Run) → IsCalm run → run.ended ≡ input.is_ended → run.count ≡ input.count
      → WritesText (written_by write run.said) run found
      → Ends (written_by write run.said) run status)
      → PlaysLines settings start (text_by write) source source' sink sink' status
  plays_exact found status says row =
      let written = so_far.writes [] in
      let said = said_is ∙ ap (prefixed so_far.commands) says in
      let counted : length so_far.more + start.count ≡ input.count =
      omega (arith, so_far.passes.count) in
      record {
        plays = record {
          more = so_far.more;
          ended = input.is_ended;
          appended = written.front;
          taken = so_far.takes.taken;
          written = written.appended;
          end = so_far.takes.end start_ended;
          within = omega (arith, counted, fits.within);
          below = λ is. omega (arith, counted, fits.below is);
          table = row (run_of settings start source source' sink sink' so_far.more input.is_ended
              written.front)
              (record { source = so_far.calm; sink = written.faultless })
              refl counted
              (record {
                said = ap (λ s. s.refusal) said;
                appended = sym (append-nil written.front)
                    ∙ ap (λ t. written.front ++ t) (sym so_far.ends) ∙ sym written.parts
                    ∙ ap (written_by write) (sym said);
              });
        };
        may_come = λ is. let s = so_far.passes.stays is in (s.1, s.0);
      }

  -- a first part of what commands write that go on with those so far was written, without a fault
  pub plays_no_memory : PlaysLines settings start (text_by write) source source' sink sink' NoMemory
  plays_no_memory =
      let later = commands_said settings (events_of so_far.commands)
      (pending ++ kept_left input input.is_ended []) in
      let written = so_far.writes later.commands in
      let counted : length so_far.more + start.count ≡ input.count =
      omega (arith, so_far.passes.count) in
      record {
        plays = record {
          more = so_far.more;
          ended = input.is_ended;
          appended = written.front;
          taken = so_far.takes.taken;
          written = written.appended;
          end = so_far.takes.end start_ended;
          within = omega (arith, counted, fits.within);
          below = λ is. omega (arith, counted, fits.below is);
          table = (
            record { source = so_far.calm; sink = written.faultless },
            record {
              rest = executor.left later.commands;
              prefix = ap (written_by write) said_is
                  ∙ written.parts;
            },
          );
        };
        may_come = λ is. let s = so_far.passes.stays is in (s.1, s.0);
      }

-- a line that is refused has its fault for a status, unless memory ran out
pub refused_is : (line : ℕ) (fault : LineFault) → (refused_status line fault ≡ NoMemory)
    ⊎ ((refused_status line fault ≡ BadScript line fault) × (fault ≢ faults.NoMemory))
refused_is line faults.NoMemory = inl refl
refused_is line faults.TooLong = inr (refl, λ e. absurd (cc))
refused_is line faults.NotJson = inr (refl, λ e. absurd (cc))
refused_is line faults.NotObject = inr (refl, λ e. absurd (cc))
refused_is line faults.UnknownMember = inr (refl, λ e. absurd (cc))
refused_is line faults.MissingMember = inr (refl, λ e. absurd (cc))
refused_is line faults.BadValue = inr (refl, λ e. absurd (cc))
refused_is line faults.UnknownCommand = inr (refl, λ e. absurd (cc))

-- what a line reads to that isn't out of memory
pub known : {A : Type 0} {reading : Result A LineFault} {fault : LineFault}
    → (fault ≡ faults.NoMemory) ⊎ (reading ≡ Err fault) → (fault ≢ faults.NoMemory)
    → reading ≡ Err fault
known (inl out) other = absurd (other out)
known (inr reads) other = reads

-- the line that is pending is refused
pub plays_refused : (settings : Settings) (start input : InputState)
    (source source' sink sink' : Stream) (write : List Command → List ℕ)
    (executor : ExecutorState) (fault : LineFault)
    → SoFar settings start input source source' sink sink' write executor (this_line input ∷ [])
    → CountsFit input → (start.is_ended ≡ true → IsAtEnd source.bytes)
    → (fault ≡ faults.NoMemory)
    ⊎ (command_reading settings.depth (this_line input).text ≡ Err fault)
    → PlaysLines settings start (text_by write) source source' sink sink'
    (refused_status input.number fault)
plays_refused settings start input source source' sink sink' write executor fault so_far fits
    start_ended
    reads =
    let line = this_line input in
    elim (refused_is input.number fault) [
      | inl out ↦ rw out (plays_no_memory settings start input source source' sink sink' write
          executor
          (line ∷ []) so_far fits start_ended)
      | inr told ↦ rw (told.0) (plays_exact settings start input source source' sink sink' write
          executor
          (line ∷ []) so_far fits start_ended (Some (Fault input.number fault))
          (BadScript input.number fault)
          (said_first settings (events_of so_far.commands) line
          (kept_left input input.is_ended []) (Err fault) (known reads told.1))
          (λ run calm ended count writes. (calm, writes)))
    ]

-- it says an event, and the journal is full
pub plays_full : (settings : Settings) (start input : InputState)
    (source source' sink sink' : Stream) (write : List Command → List ℕ)
    (executor : ExecutorState) (command : Command)
    → SoFar settings start input source source' sink sink' write executor (this_line input ∷ [])
    → CountsFit input → (start.is_ended ≡ true → IsAtEnd source.bytes)
    → command_reading settings.depth (this_line input).text ≡ Ok command
    → has_room executor.world.events command ≡ false
    → PlaysLines settings start (text_by write) source source' sink sink' (JournalFull input.number)
plays_full settings start input source source' sink sink' write executor command so_far fits
    start_ended
    reads full =
    let line = this_line input in
    let events = events_of so_far.commands in
    let later = kept_left input input.is_ended [] in
    plays_exact settings start input source source' sink sink' write executor
    (line ∷ []) so_far fits
    start_ended (Some (Full input.number)) (JournalFull input.number)
    (said_first settings events line later (Ok command) reads
    ∙ command_said-full settings events line.number command
    (commands_said settings (events ++ events_by command) later)
    (ap (λ es. has_room es command) (sym so_far.events) ∙ full))
    (λ run calm ended count writes. (calm, writes))

-- it says an undo, and no edit is in force
pub plays_bare : (settings : Settings) (start input : InputState)
    (source source' sink sink' : Stream) (write : List Command → List ℕ)
    (executor : ExecutorState) (command : Command)
    → SoFar settings start input source source' sink sink' write executor (this_line input ∷ [])
    → CountsFit input → (start.is_ended ≡ true → IsAtEnd source.bytes)
    → command_reading settings.depth (this_line input).text ≡ Ok command
    → has_room executor.world.events command ≡ true
    → is_bare executor.world.events command ≡ true
    → PlaysLines settings start (text_by write) source source' sink sink'
    (NothingToUndo input.number)
plays_bare settings start input source source' sink sink' write executor command so_far fits
    start_ended
    reads room bare =
    let line = this_line input in
    let events = events_of so_far.commands in
    let later = kept_left input input.is_ended [] in
    plays_exact settings start input source source' sink sink' write executor
    (line ∷ []) so_far fits
    start_ended (Some (Bare input.number)) (NothingToUndo input.number)
    (said_first settings events line later (Ok command) reads
    ∙ command_said-bare settings events line.number command
    (commands_said settings (events ++ events_by command) later)
    (ap (λ es. has_room es command) (sym so_far.events) ∙ room)
    (ap (λ es. is_bare es command) (sym so_far.events) ∙ bare))
    (λ run calm ended count writes. (calm, writes))

-- a command that is pending stopped at a fault
module _ (settings : Settings) (start input : InputState) (source source' sink sink' : Stream)
    (write : List Command → List ℕ) (executor : ExecutorState) (line : Numbered) (command : Command)
    (so_far : SoFar settings start input source source' sink sink' write executor (line ∷ []))
    (fits : CountsFit input) (start_ended : start.is_ended ≡ true → IsAtEnd source.bytes)
    (reads : command_reading settings.depth line.text ≡ Ok command)
    (room : has_room executor.world.events command ≡ true)
    (edit : is_bare executor.world.events command ≡ false) where
  -- all that is said then
  later : Said
  later = commands_said settings (events_of so_far.commands ++ events_by command)
      (kept_left input input.is_ended [])

  -- what all lines say, by the command that is pending
  said_then : commands_said settings [] (kept_left start input.is_ended so_far.more)
      ≡ prefixed so_far.commands (record later { commands = command ∷ later.commands })
  unfolding later
  said_then =
      let events = events_of so_far.commands in
      said_is settings start input source source' sink sink' write executor (line ∷ []) so_far fits
      start_ended
      ∙ ap (prefixed so_far.commands)
      (said_first settings events line (kept_left input input.is_ended []) (Ok command) reads
      ∙ command_said-taken settings events line.number command later
      (ap (λ es. has_room es command) (sym so_far.events) ∙ room)
      (ap (λ es. is_bare es command) (sym so_far.events) ∙ edit))

  -- the output of what is said begins with what was appended
  prefix_of : (sink'' : Stream)
      → (offered : AppendsPrefix sink sink''
      (write (so_far.commands ++ command ∷ later.commands)))
      → written_by write (commands_said settings [] (kept_left start input.is_ended so_far.more))
      ≡ offered.front ++ offered.rest
  unfolding later
  prefix_of sink'' offered =
      ap (written_by write) said_then ∙ offered.parts

  -- the run as the table has it, where these bytes were appended
  part : Stream → List ℕ → Run
  part sink'' appended = record {
    source = source;
    source' = source';
    sink = sink;
    sink' = sink'';
    count = length so_far.more + start.count;
    ended = input.is_ended;
    said = commands_said settings [] (kept_left start input.is_ended so_far.more);
    appended = appended;
  }

  -- a first part of the output was written
  plays_part : (sink'' : Stream) (status : Status)
      → (offered : AppendsPrefix sink sink''
      (write (so_far.commands ++ command ∷ later.commands)))
      → (WritesPrefix (written_by write (part sink'' offered.front).said)
      (part sink'' offered.front)
      → Ends (written_by write (part sink'' offered.front).said) (part sink'' offered.front) status)
      → PlaysLines settings start (text_by write) source source' sink sink'' status
  unfolding part
  plays_part sink'' status offered ends =
      let counted : length so_far.more + start.count ≡ input.count =
      omega (arith, so_far.passes.count) in
      record {
        plays = record {
          more = so_far.more;
          ended = input.is_ended;
          appended = offered.front;
          taken = so_far.takes.taken;
          written = offered.appended;
          end = so_far.takes.end start_ended;
          within = omega (arith, counted, fits.within);
          below = λ is. omega (arith, counted, fits.below is);
          table = ends (record { rest = offered.rest; prefix = prefix_of sink'' offered });
        };
        may_come = λ is. let s = so_far.passes.stays is in (s.1, s.0);
      }

  -- what stops a command stops all commands
  stops : (sink'' : Stream) (fault : OutFault)
      → ((rest : List Command)
      → StopsWriting fault sink' sink'' (executor.left (command ∷ rest)))
      → StopsWriting fault sink sink''
      (write (so_far.commands ++ command ∷ later.commands))
  stops sink'' fault stopped =
      StopsWriting-rest sink sink' sink''
      (write (so_far.commands ++ command ∷ later.commands))
      (executor.left (command ∷ later.commands))
      (so_far.writes (command ∷ later.commands)) fault (stopped later.commands)

  -- the output of a command was not written whole
  pub plays_stopped : (sink'' : Stream) (fault : OutFault)
      → ((rest : List Command)
      → StopsWriting fault sink' sink'' (executor.left (command ∷ rest)))
      → PlaysLines settings start (text_by write) source source' sink sink'' (writing_status fault)
  unfolding part
  plays_stopped sink'' out.NoMemory stopped =
      let s = stops sink'' out.NoMemory stopped in
      plays_part sink'' NoMemory s.0
      (λ writes. (record { source = so_far.calm; sink = s.1 }, writes))
  plays_stopped sink'' out.WriteFault stopped =
      let s = stops sink'' out.WriteFault stopped in
      plays_part sink'' WriteFault s.0 (λ writes. (so_far.calm, s.1, writes))

-- ---- what the next call of the input did

module _ (settings : Settings) (start input input' : InputState)
    (source source' source'' sink sink' : Stream) (write : List Command → List ℕ)
    (executor : ExecutorState)
    (so_far : SoFar settings start input source source' sink sink' write executor [])
    (found : Bool)
    (goes : (more : List ℕ) × TakesFor input input' source' source'' more
    × AdvancesTo input input' more source' source'' (Ok found)) where
  -- the next line came, or the end
  advanced : (is : Bool) → found ≡ is → AdvancesTo input input' goes.0 source' source'' (Ok is)
  advanced is same =
      subst (λ b. AdvancesTo input input' goes.0 source' source'' (Ok b)) same goes.2

  -- a line was found that is yet to be carried out
  pub SoFar-line : found ≡ true
      → SoFar settings start input' source source'' sink sink' write executor
      (this_line input' ∷ [])
  SoFar-line is =
      let on = advanced true is in
      SoFar-advance settings start input input' source source' source'' sink sink' write executor
      (this_line input' ∷ []) goes.0 so_far goes.1 on.0 on.3

  -- and its number is greater than that of the line before
  pub numbers_grow : found ≡ true → input.number < input'.number
  numbers_grow is = (advanced true is).2

  -- at the end all that was said was carried out
  pub plays_end : CountsFit input' → (start.is_ended ≡ true → IsAtEnd source.bytes)
      → found ≡ false → PlaysLines settings start (text_by write) source source'' sink sink' Done
  plays_end fits start_ended is =
      let on = advanced false is in
      let ended = on.1 in
      let so_far' = SoFar-advance settings start input input' source source' source'' sink sink'
      write executor [] goes.0 so_far goes.1 on.0 on.2 in
      let none : kept_left input' input'.is_ended [] ≡ [] = rw ended refl in
      plays_exact settings start input' source source'' sink sink' write executor [] so_far' fits
      start_ended None Done
      (ap (commands_said settings (events_of so_far'.commands)) none)
      (λ run calm seen count writes. (calm, seen ∙ ended, writes))

-- memory ran out before any line
pub plays_no_engine : (settings : Settings) (input : InputState) (text : Bool → Said → List ℕ)
    (source sink : Stream) → CountsFit input → (input.is_ended ≡ true → IsAtEnd source.bytes)
    → PlaysLines settings input text source source sink sink NoMemory
plays_no_engine settings input text source sink fits end = record {
  plays = record {
    more = [];
    ended = input.is_ended;
    appended = [];
    taken = Yields-none source;
    written = Appends-none sink;
    end = end;
    within = omega (arith, fits.within);
    below = λ is. omega (arith, fits.below is);
    table = (
      record { source = refl; sink = refl },
      record {
        rest = text input.is_ended (commands_said settings [] (kept_left input input.is_ended []));
        prefix = refl;
      },
    );
  };
  may_come = λ is. (is, refl);
}

-- ---- the reading stopped

module _ (settings : Settings) (start input input' : InputState)
    (source source' source'' sink sink' : Stream)
    (write : List Command → List ℕ) (executor : ExecutorState) (more : List ℕ)
    (so_far : SoFar settings start input source source' sink sink' write executor [])
    (takes : TakesFor input input' source' source'' more)
    (fits : CountsFit input') (start_ended : start.is_ended ≡ true → IsAtEnd source.bytes) where
  -- by the bytes that were read and the lines that were passed, of which none is left
  stopped_lines : Passes input input' more [] → HasNoLine input'
      → kept_left start false (so_far.more ++ more) ≡ so_far.passed ++ []
  stopped_lines passes no_line =
      let all = Passes-then start input input' so_far.more more so_far.passed [] so_far.passes
      passes in
      ap (kept_left start false) (sym (append-nil (so_far.more ++ more)))
      ∙ all.kept false [] (λ is. absurd (true≢false (sym is ∙ no_line.open_end)))
      ∙ ap (λ t. (so_far.passed ++ []) ++ t) no_line.none
      ∙ append-nil (so_far.passed ++ [])

  -- what they say
  stopped_said : (lines : List Numbered) (found : Option Refusal)
      → kept_left start false (so_far.more ++ more) ≡ so_far.passed ++ lines
      → commands_said settings (events_of so_far.commands) lines
      ≡ end_said settings found
      → commands_said settings [] (kept_left start false (so_far.more ++ more))
      ≡ record {
        headed = true;
        settings = settings;
        commands = so_far.commands ++ [];
        refusal =
            found;
      }
  stopped_said lines found kept says =
      ap (commands_said settings []) kept ∙ so_far.reads lines ∙ ap (prefixed so_far.commands) says

  -- the exact output was written
  stopped_exact : (found : Option Refusal) (status : Status)
      → commands_said settings [] (kept_left start false (so_far.more ++ more))
      ≡ record {
        headed = true;
        settings = settings;
        commands = so_far.commands ++ [];
        refusal =
            found;
      }
      → length (so_far.more ++ more) + start.count ≡ input'.count
      → (start.is_ended ≡ true → ⊥)
      → ((appended : List ℕ) → IsFaultless sink sink'
      → WritesText
      (written_by write (commands_said settings [] (kept_left start false (so_far.more ++ more))))
      (run_of settings start source source'' sink sink' (so_far.more ++ more) false appended) found
      → Ends (written_by write (commands_said settings [] (kept_left start false
      (so_far.more ++ more))))
      (run_of settings start source source'' sink sink' (so_far.more ++ more) false appended)
      status)
      → PlaysLines settings start (text_by write) source source'' sink sink' status
  stopped_exact found status said counted open_start row =
      let written = so_far.writes [] in
      let all = TakesFor-then start input input' source source' source'' so_far.more more
      so_far.takes takes in
      record {
        plays = record {
          more = so_far.more ++ more;
          ended = false;
          appended = written.front;
          taken = all.taken;
          written = written.appended;
          end = λ is. absurd (true≢false (sym is));
          within = omega (arith, counted, fits.within);
          below = λ is. absurd (true≢false (sym is));
          table = row written.front written.faultless (record {
            said = ap (λ s. s.refusal) said;
            appended = sym (append-nil written.front)
                ∙ ap (λ t. written.front ++ t) (sym so_far.ends) ∙ sym written.parts
                ∙ ap (written_by write) (sym said);
          });
        };
        may_come = λ is. absurd (open_start is);
      }

  -- no further line came
  pub plays_stops : (refusal : ReadRefusal) → Stops input input' more source' source'' refusal
      → PlaysLines settings start (text_by write) source source'' sink sink'
      (reading_status refusal)
  plays_stops reading.ReadFault stops =
      let counted : length (so_far.more ++ more) + start.count ≡ input'.count =
      omega (arith, so_far.passes.count, stops.1.count, length-append so_far.more more) in
      stopped_exact None ReadFault
      (stopped_said [] None (stopped_lines stops.1 stops.2) refl) counted
      (λ is. true≢false (sym ((stops.1.stays (so_far.passes.stays is).1).1) ∙ stops.2.open_end))
      (λ appended sink_calm writes.
      (HasFailed-after source source' source'' so_far.calm stops.0, sink_calm, refl, writes))
  plays_stops reading.InputLimit stops =
      let counted : length (so_far.more ++ more) + start.count ≡ input'.count =
      omega (arith, so_far.passes.count, stops.1.count, length-append so_far.more more) in
      stopped_exact None InputLimit
      (stopped_said [] None (stopped_lines stops.1 stops.2) refl) counted
      (λ is. true≢false (sym ((stops.1.stays (so_far.passes.stays is).1).1) ∙ stops.2.open_end))
      (λ appended sink_calm writes. (
        record {
          source = IsFaultless-trans source source' source'' so_far.calm stops.0;
          sink = sink_calm;
        },
        refl,
        counted ∙ stops.3,
        writes,
      ))
  plays_stops (reading.TooLong line) stops =
      let counted : length (so_far.more ++ more) + start.count ≡ input'.count =
      omega (arith, so_far.passes.count, stops.2, length-append so_far.more more) in
      let open_end : input.is_ended ≡ true → ⊥ =
      λ is. open_from_long input line (more ++ []) (stops.3 true []) is in
      let long = subst (λ t. StartsLongAt line (kept_left input false t)) (append-nil more)
      (stops.3 false []) in
      stopped_exact (Some (Fault line faults.TooLong)) (BadScript line faults.TooLong)
      (stopped_said (kept_left input false more) (Some (Fault line faults.TooLong))
      (so_far.passes.kept false more (λ is. absurd (open_end is)))
      (said_long settings (events_of so_far.commands) line (kept_left input false more) long))
      counted (λ is. open_end (so_far.passes.stays is).1)
      (λ appended sink_calm writes. (
        record {
          source = IsFaultless-trans source source' source'' so_far.calm stops.0;
          sink = sink_calm;
        },
        writes,
      ))
