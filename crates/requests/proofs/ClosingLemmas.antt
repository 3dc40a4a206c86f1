-- The line of the watchers behind the output of a script, and the text of a run with it: this serves the end of `play`.
-- The text of a run is the output, and behind it that line where the end was seen and no line is refused. So in each
-- other row of the table of statuses the text is the output (closing-open, closing-refused), and a run that isn't done
-- has no line to write (Ends-unclosed, plays_unclosed). Where the script was carried out to its end the line is written
-- behind what was appended: whole (plays_closed), or a first part of it before a fault (plays_half_closed). As many
-- watchers tell what they saw as were asked for (all_tell).
use Rattle.std.proofs.Common.{◌≡◌, ◌≢◌, ℕ, Bool, false, List, [], ◌++◌, refl, sym, ap, ◌∙◌, append_assoc}
use Rattle.std.specs.Prelude.{Option, Some, None, Result, Ok, Err, IfOk}
use Rattle.std.specs.declared.alloc.AllocError.{AllocError}
use Rattle.std.proofs.lemmas.List.{append-nil}
use Rattle.lattice.specs.declared.settings.Settings.{Settings}
use Rattle.mesh_out.specs.declared.fault.OutFault.{OutFault}
use Rattle.mesh_out.specs.declared.fault.OutFault.TheVariants as out
use Rattle.mesh_out.specs.Writing.{StopsWriting}
use Rattle.terra_io.specs.Stream.{Stream, Appends, IsFaultless}
use Rattle.script_play.specs.declared.status.Status.{Status}
use Rattle.script_play.specs.declared.status.Status.TheVariants.{Done, NoMemory, BadWords, BadScript, ReadFault, WriteFault, JournalFull, InputLimit, NothingToUndo, BadWire, CutWire}
use Rattle.script_play.specs.Input.{InputState, kept_left}
use Rattle.script_play.specs.Play.{PlaysLines, output_alone}
use Rattle.script_play.specs.Ending.{Ends, Run, WritesPrefix, WritesText, output_of}
use Rattle.requests.specs.Texts.{closing, text_of, watch_line}
use Rattle.script_play.specs.Statuses.{writing_status}
use Rattle.script_play.specs.Script.{Bare, Fault, Full, Refusal, Said, commands_said}
use Rattle.script_play.proofs.PlayLemmas.{run_of}
use Rattle.terra_io.proofs.StreamLemmas.{Appends-trans}
use Rattle.script_play.proofs.StreamLemmas.{HasFailed-after, IsFaultless-trans}
use Rattle.arguments.specs.declared.options.Options.{Options}

-- ---- the text of a run

-- it is the output where nothing comes behind that
pub text-alone : (options : Options) (ended : Bool) (said : Said)
    → closing options said.refusal ended ≡ [] → text_of options ended said ≡ output_of said
text-alone options ended said none =
    ap (λ t. output_of said ++ t) none ∙ append-nil (output_of said)

-- so it is where the end wasn't seen
pub closing-open : (options : Options) (refusal : Option Refusal) (ended : Bool)
    → ended ≡ false → closing options refusal ended ≡ []
closing-open options None ended is = rw is refl
closing-open options (Some refusal) ended is = refl

-- and where a line is refused
closing-refused : (options : Options) (said : Said) (ended : Bool) (refusal : Refusal)
    → said.refusal ≡ Some refusal → closing options said.refusal ended ≡ []
closing-refused options said ended refusal is =
    ap (λ found. closing options found ended) is

-- a first part of the output is one of the text
prefix-longer : (options : Options) (run : Run) → WritesPrefix (output_of run.said) run
    → WritesPrefix (text_of options run.ended run.said) run
prefix-longer options run writes =
    let more = closing options run.said.refusal run.ended in record {
      rest = writes.rest ++ more;
      prefix = ap (λ t. t ++ more) writes.prefix ∙ append_assoc run.appended writes.rest more;
    }

-- the output is the text
text-same : (options : Options) (run : Run) (found : Option Refusal)
    → closing options run.said.refusal run.ended ≡ [] → WritesText (output_of run.said) run found
    → WritesText (text_of options run.ended run.said) run found
text-same options run found none writes = record {
  said = writes.said;
  appended = writes.appended ∙ sym (text-alone options run.ended run.said none);
}

-- a run that isn't done has no line behind its output
Ends-unclosed : (options : Options) (run : Run) (status : Status) → (status ≢ Done)
    → Ends (output_of run.said) run status → Ends (text_of options run.ended run.said) run status
Ends-unclosed options run Done other ends = absurd (other refl)
Ends-unclosed options run NoMemory other ends = (ends.0, prefix-longer options run ends.1)
Ends-unclosed options run BadWords other ends = absurd ends
Ends-unclosed options run (BadScript line fault) other ends = (
  ends.0,
  text-same options run (Some (Fault line fault))
      (closing-refused options run.said run.ended (Fault line fault) ends.1.said) ends.1,
)
Ends-unclosed options run ReadFault other ends = (
  ends.0,
  ends.1,
  ends.2,
  text-same options run None (closing-open options run.said.refusal run.ended ends.2) ends.3,
)
Ends-unclosed options run WriteFault other ends =
    (ends.0, ends.1, prefix-longer options run ends.2)
Ends-unclosed options run (JournalFull line) other ends = (
  ends.0,
  text-same options run (Some (Full line))
      (closing-refused options run.said run.ended (Full line) ends.1.said) ends.1,
)
Ends-unclosed options run InputLimit other ends = (
  ends.0,
  ends.1,
  ends.2,
  text-same options run None (closing-open options run.said.refusal run.ended ends.1) ends.3,
)
Ends-unclosed options run (NothingToUndo line) other ends = (
  ends.0,
  text-same options run (Some (Bare line))
      (closing-refused options run.said run.ended (Bare line) ends.1.said) ends.1,
)
Ends-unclosed options run (BadWire at fault) other ends = absurd ends
Ends-unclosed options run CutWire other ends = absurd ends

-- ---- behind the lines that were carried out

-- the same is said of the same streams and the same status
pub plays_same : (settings : Settings) (input : InputState)
    (source source' source'' sink sink' sink'' : Stream) {status status' : Status}
    → source' ≡ source'' → sink' ≡ sink'' → status' ≡ status
    → PlaysLines settings input output_alone source source' sink sink' status
    → PlaysLines settings input output_alone source source'' sink sink'' status'
plays_same settings input source source' source'' sink sink' sink'' same_source same_sink is lines =
    rw (is, sym same_source, sym same_sink) lines

-- and so it is whatever text is written
pub plays_there : (settings : Settings) (input : InputState) (text : Bool → Said → List ℕ)
    (source source' source'' sink sink' sink'' : Stream) (status : Status)
    → source' ≡ source'' → sink' ≡ sink''
    → PlaysLines settings input text source source' sink sink' status
    → PlaysLines settings input text source source'' sink sink'' status
plays_there settings input text source source' source'' sink sink' sink'' status to_source to_sink
    lines =
    rw (sym to_source, sym to_sink) lines

module _ (options : Options) (settings : Settings) (input : InputState)
    (source source' sink sink' : Stream) where
  -- they weren't carried out to the end
  pub plays_unclosed : (status : Status) → (status ≢ Done)
      → PlaysLines settings input output_alone source source' sink sink' status
      → PlaysLines settings input (text_of options) source source' sink sink' status
  plays_unclosed status other lines =
      let plays = lines.plays in
      record {
        plays = record {
          more = plays.more;
          ended = plays.ended;
          appended = plays.appended;
          taken = plays.taken;
          written = plays.written;
          end = plays.end;
          within = plays.within;
          below = plays.below;
          table = Ends-unclosed options (run_of settings input source source' sink sink' plays.more
              plays.ended plays.appended) status other plays.table;
        };
        may_come = lines.may_come;
      }

  -- they were, and what is behind their output is the line
  module _ (sink'' : Stream)
      (lines : PlaysLines settings input output_alone source source' sink sink' Done) where
    -- what the lines say that were carried out
    said : Said
    said = commands_said settings [] (kept_left input lines.plays.ended lines.plays.more)

    -- the text is then what was appended, and the line behind it
    text-closed : text_of options lines.plays.ended said
        ≡ lines.plays.appended ++ watch_line options
    unfolding said
    text-closed =
        let table = lines.plays.table in
        ap (λ found. output_of said ++ closing options found lines.plays.ended) table.2.said
        ∙ ap (λ e. output_of said ++ closing options None e) table.1
        ∙ ap (λ t. t ++ watch_line options) (sym table.2.appended)

    -- which was written
    pub plays_closed : Appends sink' sink'' (watch_line options) → IsFaultless sink' sink''
        → PlaysLines settings input (text_of options) source source' sink sink'' Done
    unfolding said
    plays_closed written calm =
        let plays = lines.plays in
        let table = plays.table in
        record {
          plays = record {
            more = plays.more;
            ended = plays.ended;
            appended = plays.appended ++ watch_line options;
            taken = plays.taken;
            written = Appends-trans sink sink' sink'' plays.appended (watch_line options)
                plays.written written;
            end = plays.end;
            within = plays.within;
            below = plays.below;
            table = (
              record {
                source = table.0.source;
                sink = IsFaultless-trans sink sink' sink'' table.0.sink calm;
              },
              table.1,
              record { said = table.2.said; appended = sym text-closed },
            );
          };
          may_come = lines.may_come;
        }

    -- or wasn't, or not whole
    text-part : (front rest : List ℕ) → watch_line options ≡ front ++ rest
        → text_of options lines.plays.ended said ≡ (lines.plays.appended ++ front) ++ rest
    unfolding said
    text-part front rest parts =
        text-closed ∙ ap (λ t. lines.plays.appended ++ t) parts
        ∙ sym (append_assoc lines.plays.appended front rest)

    -- a first part of the line of the watchers was written, and then no more
    pub plays_half_closed : (fault : OutFault)
        → StopsWriting fault sink' sink'' (watch_line options)
        → PlaysLines settings input (text_of options) source source' sink sink''
        (writing_status fault)
    unfolding said
    plays_half_closed out.NoMemory stops =
        let plays = lines.plays in
        let table = plays.table in
        let front = stops.0.front in
        record {
          plays = record {
            more = plays.more;
            ended = plays.ended;
            appended = plays.appended ++ front;
            taken = plays.taken;
            written = Appends-trans sink sink' sink'' plays.appended front plays.written
                stops.0.appended;
            end = plays.end;
            within = plays.within;
            below = plays.below;
            table = (
              record {
                source = table.0.source;
                sink = IsFaultless-trans sink sink' sink'' table.0.sink stops.1;
              },
              record { rest = stops.0.rest; prefix = text-part front stops.0.rest stops.0.parts },
            );
          };
          may_come = lines.may_come;
        }
    plays_half_closed out.WriteFault stops =
        let plays = lines.plays in
        let table = plays.table in
        let front = stops.0.front in
        record {
          plays = record {
            more = plays.more;
            ended = plays.ended;
            appended = plays.appended ++ front;
            taken = plays.taken;
            written = Appends-trans sink sink' sink'' plays.appended front plays.written
                stops.0.appended;
            end = plays.end;
            within = plays.within;
            below = plays.below;
            table = (
              table.0.source,
              HasFailed-after sink sink' sink'' table.0.sink stops.1,
              record { rest = stops.0.rest; prefix = text-part front stops.0.rest stops.0.parts },
            );
          };
          may_come = lines.may_come;
        }

-- ---- the watchers

-- as many tell what they saw as were asked for
pub all_tell : {T : Type 0} (told : Result T AllocError) (number : T → ℕ) (viewers watchers : ℕ)
    → IfOk told (λ all. number all ≡ viewers) → viewers ≡ watchers
    → IfOk told (λ all. number all ≡ watchers)
all_tell (Ok all) number viewers watchers each same = each ∙ same
all_tell (Err fault) number viewers watchers each same = tt
