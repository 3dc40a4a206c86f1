-- How a text is written piece by piece, and how that ends early. This project's rule.
use Rattle.std.specs.Prelude.{◌≡◌, ℕ, List, ◌++◌}
use Rattle.mesh_out.specs.declared.fault.OutFault.{OutFault}
use Rattle.mesh_out.specs.declared.fault.OutFault.TheVariants.{NoMemory, WriteFault}
use Rattle.terra_io.specs.Stream.{Stream, Appends, AppendsPrefix, IsFaultless, HasFailed}

-- a first part of the text was written, and then no more for this reason
abbrev pub StopsWriting : OutFault → Stream → Stream → List ℕ → Type 0
StopsWriting NoMemory old new text = AppendsPrefix old new text × IsFaultless old new
StopsWriting WriteFault old new text = AppendsPrefix old new text × HasFailed old new

-- a sink took a text but for the rest, and no call failed
pub record Writes (old new : Stream) (text rest : List ℕ) : Type 0 where
  pub front : List ℕ
  pub parts : text ≡ front ++ rest
  pub appended : Appends old new front
  pub faultless : IsFaultless old new
