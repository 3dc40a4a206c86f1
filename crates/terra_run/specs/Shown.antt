-- What the program does that is no run: it shows a text that was asked for. This project's rule.
use Rattle.std.specs.Prelude.{ℕ, List}
use Rattle.terra_io.specs.Stream.{Stream, Appends, AppendsPrefix, IsFaultless, HasFailed}
use Rattle.script_play.specs.declared.status.Status.{Status}
use Rattle.script_play.specs.declared.status.Status.TheVariants.{Done, WriteFault}

-- a text was written whole, or a first part of it before a write failed
abbrev pub IsShown : List ℕ → Stream → Stream → Status → Type 0
IsShown text sink sink' Done = Appends sink sink' text × IsFaultless sink sink'
IsShown text sink sink' WriteFault = AppendsPrefix sink sink' text × HasFailed sink sink'
IsShown text sink sink' _ = ⊥
