-- What the bytes of a script say, read to their end or so far. Its lines, and what one line says, are defined in
-- `camera_script`. This project's rule.
use Rattle.std.specs.Prelude.{◌≡◌, ℕ, ◌+◌, Bool, true, false, List, [], ◌∷◌, ◌++◌, length, Option, Some, None, Result, Ok, Err, nat_le, if◌then◌else◌}
use Rattle.lattice.specs.declared.settings.Settings.{Settings}
use Rattle.terrain.specs.declared.event.Event.{Event}
use Rattle.terrain.specs.declared.event.TheConstants.{MAX_EVENTS}
use Rattle.camera_script.specs.declared.commands.Command.{Command}
use Rattle.camera_script.specs.declared.commands.Command.TheVariants.{Event as AskedFor, Shot, Stats, Pick}
use Rattle.terrain.specs.History.{in_force, undoes_nothing}
use Rattle.camera_script.specs.declared.fault.LineFault.{LineFault}
use Rattle.camera_script.specs.declared.fault.LineFault.TheVariants.{MissingMember}
use Rattle.camera_script.specs.Lines.{Numbered, lines_behind, lines_from}
use Rattle.camera_script.specs.Reading.{command_reading, head_reading}

-- why a line, by its number, is refused: it has a fault; or it says an event and the journal is full; or it says an
-- undo, and no edit is in force
pub data Refusal : Type 0 where
  Fault : ℕ → LineFault → Refusal
  Full : ℕ → Refusal
  Bare : ℕ → Refusal

-- what a script says: whether it has a head that isn't refused, and its settings; the commands before the first line
-- that is refused, and that refusal, if there is one
pub record Said : Type 0 where
  pub headed : Bool
  pub settings : Settings
  pub commands : List Command
  pub refusal : Option Refusal

-- behind the head a line is refused, or none, and no command is said before it
abbrev pub end_said : Settings → Option Refusal → Said
end_said settings refusal =
    record { headed = true; settings = settings; commands = []; refusal = refusal }

abbrev pub refusal_said : Settings → Refusal → Said
refusal_said settings refusal = end_said settings (Some refusal)

-- the events that a command is, one or none, and that commands are
abbrev pub events_by : Command → List Event
events_by (AskedFor event) = event ∷ []
events_by (Shot normals) = []
events_by Stats = []
events_by (Pick x y) = []

abbrev pub events_of : List Command → List Event
events_of [] = []
events_of (command ∷ commands) = events_by command ++ events_of commands

-- whether a journal of these events has room for a command's event, if it is one
abbrev pub has_room : List Event → Command → Bool
has_room events command = nat_le (length events + length (events_by command)) MAX_EVENTS

-- whether a command is an undo where no edit is in force after these events
abbrev pub is_bare : List Event → Command → Bool
is_bare events (AskedFor event) = undoes_nothing event (in_force events)
is_bare events (Shot normals) = false
is_bare events Stats = false
is_bare events (Pick x y) = false

-- each undo among commands behind these events has an edit in force before it
abbrev pub NoneIsBare : List Event → List Command → Type 0
NoneIsBare events [] = Unit {0}
NoneIsBare events (command ∷ commands) =
    (is_bare events command ≡ false) × NoneIsBare (events ++ events_by command) commands

-- what a line says after these events, before what later lines say: a line that says an event is refused where the
-- journal is full, and else one that says an undo where no edit is in force
abbrev pub command_said : Settings → List Event → ℕ → Result Command LineFault → Said → Said
command_said settings events line (Ok command) later =
    if has_room events command
    then (if is_bare events command then refusal_said settings (Bare line)
    else record later { commands = command ∷ later.commands })
    else refusal_said settings (Full line)
command_said settings events line (Err fault) later = refusal_said settings (Fault line fault)

-- the events after these and a line
abbrev pub events_after : List Event → Result Command LineFault → List Event
events_after events (Ok command) = events ++ events_by command
events_after events (Err fault) = events

-- what the lines behind the head, after these events, say
abbrev pub commands_said : Settings → List Event → List Numbered → Said
commands_said settings events [] = end_said settings None
commands_said settings events (line ∷ lines) =
    let reading = command_reading settings.depth line.text in
    command_said settings events line.number reading
    (commands_said settings (events_after events reading) lines)

-- settings where no head says any
abbrev pub no_settings : Settings
no_settings = record { depth = 0; reach = 0 }

-- there is no head, because a line is refused, or without that
abbrev pub headless : Option Refusal → Said
headless refusal =
    record { headed = false; settings = no_settings; commands = []; refusal = refusal }

-- what a head and the lines behind it say
abbrev pub head_said : ℕ → Result Settings LineFault → List Numbered → Said
head_said line (Ok settings) lines = commands_said settings [] lines
head_said line (Err fault) lines = headless (Some (Fault line fault))

-- what no head says: at the end of the input the line after the last one lacks its members, and before it nothing is
-- refused
abbrev pub no_head : Bool → ℕ → Said
no_head true count = headless (Some (Fault (count + 1) MissingMember))
no_head false count = headless None

-- what so many lines say, of which these aren't skipped
abbrev pub lines_said : Bool → ℕ → List Numbered → Said
lines_said ended count [] = no_head ended count
lines_said ended count (line ∷ lines) = head_said line.number (head_reading line.text) lines

-- what bytes say, where the end of the input is behind them (`ended`), or where more may come: then a last line without
-- a line feed doesn't count, unless it is too long already
abbrev pub said_by : Bool → List ℕ → Said
said_by ended bytes =
    let lines = lines_behind ended [] bytes in lines_said ended (length lines) (lines_from 1 lines)

-- what the bytes of a script say, and what the first bytes of a longer one say
abbrev pub script : List ℕ → Said
script bytes = said_by true bytes

abbrev pub script_so_far : List ℕ → Said
script_so_far bytes = said_by false bytes
