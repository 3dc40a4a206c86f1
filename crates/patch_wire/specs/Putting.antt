-- How bytes are put into a sink, and how that ends early. This project's rule.
use Rattle.std.specs.Prelude.{ℕ, List}
use Rattle.terra_io.specs.Stream.{Stream, AppendsPrefix, HasFailed}

-- a sink took a first part of these bytes, and then a call failed
abbrev pub CutsOff : Stream → Stream → List ℕ → Type 0
CutsOff old new bytes = AppendsPrefix old new bytes × HasFailed old new
