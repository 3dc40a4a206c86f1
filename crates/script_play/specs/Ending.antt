-- How a run ends that reads a script: what was said and written of it under each status. This project's rule.
use Rattle.std.specs.Prelude.{◌≡◌, ℕ, Bool, true, false, List, [], ◌++◌, Option, Some, None, if◌then◌else◌}
use Rattle.terra_io.specs.Stream.{Stream, IsFaultless, HasFailed}
use Rattle.script_play.specs.declared.refusal.TheConstants.{INPUT_LIMIT}
use Rattle.script_play.specs.declared.status.Status.{Status}
use Rattle.script_play.specs.declared.status.Status.TheVariants.{Done, NoMemory, BadWords, BadScript, ReadFault, WriteFault, JournalFull, InputLimit, NothingToUndo, BadWire, CutWire}
use Rattle.script_play.specs.Script.{Refusal, Fault, Full, Bare, Said}
use Rattle.script_play.specs.Output.{output}
use Rattle.script_play.specs.Wire.{wire_output}

-- a run: its source and its sink before and after it, how many bytes it read, whether it saw their end, what they say,
-- and the bytes that it appended
pub record Run : Type 0 where
  pub source : Stream
  pub source' : Stream
  pub sink : Stream
  pub sink' : Stream
  pub count : ℕ
  pub ended : Bool
  pub said : Said
  pub appended : List ℕ

-- what a script's output commands write
abbrev pub output_of : Said → List ℕ
output_of said = output said.settings said.commands

-- the wire of what was said, of which nothing is written before its head is read
abbrev pub wire_of : Said → List ℕ
wire_of said = if said.headed then wire_output said.settings said.commands else []

-- no call of the source or of the sink failed
pub record IsCalm (run : Run) : Type 0 where
  pub source : IsFaultless run.source run.source'
  pub sink : IsFaultless run.sink run.sink'

-- what was read says this refusal or none, and the text was appended
pub record WritesText (text : List ℕ) (run : Run) (refusal : Option Refusal) : Type 0 where
  pub said : run.said.refusal ≡ refusal
  pub appended : run.appended ≡ text

-- a first part of the text was appended
pub record WritesPrefix (text : List ℕ) (run : Run) : Type 0 where
  pub rest : List ℕ
  pub prefix : text ≡ run.appended ++ rest

-- When each status of a run comes that reads a script, and what of its text was appended under it.
-- Memory may run out at any time: that one status is free, but never comes after a fault.
abbrev pub Ends : List ℕ → Run → Status → Type 0
Ends text run Done = IsCalm run × (run.ended ≡ true) × WritesText text run None
Ends text run NoMemory = IsCalm run × WritesPrefix text run
Ends text run BadWords = ⊥
Ends text run (BadScript line fault) = IsCalm run × WritesText text run (Some (Fault line fault))
Ends text run ReadFault =
    HasFailed run.source run.source' × IsFaultless run.sink run.sink' × (run.ended ≡ false)
    × WritesText text run None
Ends text run WriteFault =
    IsFaultless run.source run.source' × HasFailed run.sink run.sink' × WritesPrefix text run
Ends text run (JournalFull line) = IsCalm run × WritesText text run (Some (Full line))
Ends text run InputLimit =
    IsCalm run × (run.ended ≡ false) × (run.count ≡ INPUT_LIMIT) × WritesText text run None
Ends text run (NothingToUndo line) = IsCalm run × WritesText text run (Some (Bare line))
Ends text run (BadWire at fault) = ⊥
Ends text run CutWire = ⊥
