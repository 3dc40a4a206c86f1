-- Lines that are carried out behind bytes that were written before, as the head of a wire is; an engine has none.
-- What commands write goes behind these bytes, so under each status the whole is written, or a first part of it
-- (Ends-behind, plays-behind). Where the bytes weren't written whole, a first part of them was (plays_no_front).
use Rattle.std.proofs.Common.{◌≡◌, ℕ, Bool, true, List, [], ◌++◌, refl, sym, ap, subst, ◌∙◌, append_assoc, arith}
use Rattle.std.specs.Prelude.{Option, Some, None}
use Rattle.std.specs.Io.KnownBytes.{IsAtEnd}
use Rattle.lattice.specs.declared.settings.Settings.{Settings}
use Rattle.patch_wire.specs.Putting.{CutsOff}
use Rattle.terra_io.specs.Stream.{Stream, Appends, IsFaultless}
use Rattle.terra_io.proofs.StreamLemmas.{Appends-trans}
use Rattle.script_play.specs.declared.status.Status.{Status}
use Rattle.script_play.specs.declared.status.Status.TheVariants.{Done, NoMemory, BadWords, BadScript, ReadFault, WriteFault, JournalFull, InputLimit, NothingToUndo, BadWire, CutWire}
use Rattle.script_play.specs.Engine.{EngineState, IsFreshEngine, left_to_write}
use Rattle.script_play.specs.Executor.{text_by}
use Rattle.script_play.specs.Output.{output, output_after}
use Rattle.script_play.specs.Input.{CountsFit, InputState, kept_left}
use Rattle.script_play.specs.Play.{PlaysLines, output_alone}
use Rattle.script_play.specs.Ending.{Ends, IsCalm, Run, WritesPrefix, WritesText}
use Rattle.script_play.specs.Script.{Bare, Fault, Full, Refusal, Said, commands_said}
use Rattle.script_play.proofs.PlayLemmas.{run_of, said_headed, said_settings}
use Rattle.script_play.proofs.StreamLemmas.{HasFailed-after, IsFaultless-trans, Yields-none}
use Rattle.camera_script.specs.declared.commands.Command.{Command}

-- a run with bytes that were written before what it wrote
abbrev behind : List ℕ → Stream → Run → Run
behind front sink run = record run { sink = sink; appended = front ++ run.appended }

-- its text
text-behind : (front text : List ℕ) (sink : Stream) (run : Run) (found : Option Refusal)
    → WritesText text run found → WritesText (front ++ text) (behind front sink run) found
text-behind front text sink run found writes =
    record { said = writes.said; appended = ap (λ t. front ++ t) writes.appended }

-- a first part of it
prefix-behind : (front text : List ℕ) (sink : Stream) (run : Run) → WritesPrefix text run
    → WritesPrefix (front ++ text) (behind front sink run)
prefix-behind front text sink run writes = record {
  rest = writes.rest;
  prefix = ap (λ t. front ++ t) writes.prefix
      ∙ sym (append_assoc front run.appended writes.rest);
}

-- no call failed
calm-behind : (front : List ℕ) (sink : Stream) (run : Run) → IsFaultless sink run.sink
    → IsCalm run → IsCalm (behind front sink run)
calm-behind front sink run before calm = record {
  source = calm.source;
  sink = IsFaultless-trans sink run.sink run.sink' before calm.sink;
}

-- each row of the table
Ends-behind : (front text : List ℕ) (sink : Stream) (run : Run) (status : Status)
    → IsFaultless sink run.sink → Ends text run status
    → Ends (front ++ text) (behind front sink run) status
Ends-behind front text sink run Done before ends = (
  calm-behind front sink run before ends.0,
  ends.1,
  text-behind front text sink run None ends.2,
)
Ends-behind front text sink run NoMemory before ends =
    (calm-behind front sink run before ends.0, prefix-behind front text sink run ends.1)
Ends-behind front text sink run BadWords before ends = absurd ends
Ends-behind front text sink run (BadScript line fault) before ends = (
  calm-behind front sink run before ends.0,
  text-behind front text sink run (Some (Fault line fault)) ends.1,
)
Ends-behind front text sink run ReadFault before ends = (
  ends.0,
  IsFaultless-trans sink run.sink run.sink' before ends.1,
  ends.2,
  text-behind front text sink run None ends.3,
)
Ends-behind front text sink run WriteFault before ends = (
  ends.0,
  HasFailed-after sink run.sink run.sink' before ends.1,
  prefix-behind front text sink run ends.2,
)
Ends-behind front text sink run (JournalFull line) before ends = (
  calm-behind front sink run before ends.0,
  text-behind front text sink run (Some (Full line)) ends.1,
)
Ends-behind front text sink run InputLimit before ends = (
  calm-behind front sink run before ends.0,
  ends.1,
  ends.2,
  text-behind front text sink run None ends.3,
)
Ends-behind front text sink run (NothingToUndo line) before ends = (
  calm-behind front sink run before ends.0,
  text-behind front text sink run (Some (Bare line)) ends.1,
)
Ends-behind front text sink run (BadWire at fault) before ends = absurd ends
Ends-behind front text sink run CutWire before ends = absurd ends

-- the text is these bytes, and behind them what the commands write
abbrev pub IsBehind : Settings → List ℕ → (List Command → List ℕ)
    → (Bool → Said → List ℕ) → Type 0
IsBehind settings front write text =
    (ended : Bool) (said : Said) → said.headed ≡ true → said.settings ≡ settings
    → front ++ write said.commands ≡ text ended said

module _ (settings : Settings) (input : InputState) (front : List ℕ)
    (write : List Command → List ℕ) (text : Bool → Said → List ℕ)
    (is : IsBehind settings front write text) where
  -- the lines behind these bytes
  pub plays-behind : (source source' sink sink' sink'' : Stream) (status : Status)
      → Appends sink sink' front → IsFaultless sink sink'
      → PlaysLines settings input (text_by write) source source' sink' sink'' status
      → PlaysLines settings input text source source' sink sink'' status
  plays-behind source source' sink sink' sink'' status written calm lines =
      let plays = lines.plays in
      let left = kept_left input plays.ended plays.more in
      let said = commands_said settings [] left in
      let run = run_of settings input source source' sink' sink'' plays.more plays.ended
      plays.appended in
      record {
        plays = record {
          more = plays.more;
          ended = plays.ended;
          appended = front ++ plays.appended;
          taken = plays.taken;
          written = Appends-trans sink sink' sink'' front plays.appended written plays.written;
          end = plays.end;
          within = plays.within;
          below = plays.below;
          table = subst (λ t. Ends t (behind front sink run) status)
              (is plays.ended said (said_headed settings [] left) (said_settings settings [] left))
              (Ends-behind front (write said.commands) sink run status calm plays.table);
        };
        may_come = lines.may_come;
      }

  -- the bytes weren't written whole, and nothing was read
  pub plays_no_front : (source sink sink' : Stream) → CutsOff sink sink' front → CountsFit input
      → (input.is_ended ≡ true → IsAtEnd source.bytes)
      → PlaysLines settings input text source source sink sink' WriteFault
  plays_no_front source sink sink' cut fits end =
      let left = kept_left input input.is_ended [] in
      let said = commands_said settings [] left in
      record {
        plays = record {
          more = [];
          ended = input.is_ended;
          appended = cut.0.front;
          taken = Yields-none source;
          written = cut.0.appended;
          end = end;
          within = omega (arith, fits.within);
          below = λ e. omega (arith, fits.below e);
          table = (
            refl,
            cut.1,
            record {
              rest = cut.0.rest ++ write said.commands;
              prefix = sym (is input.is_ended said (said_headed settings [] left)
                  (said_settings settings [] left))
                  ∙ ap (λ t. t ++ write said.commands) cut.0.parts
                  ∙ append_assoc cut.0.front cut.0.rest (write said.commands);
            },
          );
        };
        may_come = λ e. (e, refl);
      }

-- what an engine before any event has left to write is the output alone
pub left-is : (settings : Settings) (engine : EngineState) → IsFreshEngine settings engine
    → IsBehind settings [] (left_to_write engine) output_alone
left-is settings engine fresh ended said headed rules =
    (λ t. output_after (fresh.settings t) (fresh.events t) (fresh.shot t) (fresh.bases t)
    said.commands)
    ∙ ap (λ s. output s said.commands) (sym rules)
