-- A script that is carried out line by line. This project's rule.
use Rattle.std.specs.Prelude.{◌≡◌, ℕ, ◌+◌, ◌<◌, ◌≤◌, Bool, true, List, [], length}
use Rattle.std.specs.Io.KnownBytes.{IsAtEnd}
use Rattle.lattice.specs.declared.settings.Settings.{Settings}
use Rattle.terra_io.specs.Stream.{Stream, Yields, Appends}
use Rattle.script_play.specs.declared.refusal.TheConstants.{INPUT_LIMIT}
use Rattle.script_play.specs.declared.status.Status.{Status}
use Rattle.script_play.specs.Input.{InputState, MayCome, kept_left}
use Rattle.script_play.specs.Ending.{Ends, output_of, wire_of}
use Rattle.script_play.specs.Script.{Said, commands_said}

-- the text of commands without watchers
abbrev pub output_alone : Bool → Said → List ℕ
output_alone ended said = output_of said

-- the wire that commands write, with its head
abbrev pub wire_alone : Bool → Said → List ℕ
wire_alone ended said = wire_of said

-- these bytes were taken, so many in all (`count`), and those appended, and the status is the one for what they say and
-- for the text of that
pub record Plays (count : List ℕ → ℕ) (says : Bool → List ℕ → Said)
    (text : Bool → Said → List ℕ) (source source' sink sink' : Stream) (status : Status)
    : Type 0 where
  pub more : List ℕ
  pub ended : Bool
  pub appended : List ℕ
  pub taken : Yields source source' more
  pub written : Appends sink sink' appended
  pub end : ended ≡ true → IsAtEnd source'.bytes
  pub within : count more ≤ INPUT_LIMIT
  pub below : ended ≡ true → count more < INPUT_LIMIT
  pub table : Ends (text ended (says ended more)) (record {
    source = source;
    source' = source';
    sink = sink;
    sink' = sink';
    count = count more;
    ended = ended;
    said = says ended more;
    appended = appended;
  }) status

-- the lines that are left of an input were carried out, as commands in a world of these settings
pub record PlaysLines (settings : Settings) (input : InputState) (text : Bool → Said → List ℕ)
    (source source' sink sink' : Stream) (status : Status) : Type 0 where
  pub plays : Plays (λ more. length more + input.count)
      (λ ended more. commands_said settings [] (kept_left input ended more)) text source source'
      sink sink' status
  pub may_come : MayCome input plays.ended plays.more
