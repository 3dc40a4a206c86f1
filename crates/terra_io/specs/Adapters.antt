-- Adapters over std's readers and writers. This project's rule.
use Rattle.std.specs.Prelude.{ℕ, List, take, Option, None}
use Rattle.std.specs.Io.KnownBytes as known
use Rattle.terra_io.specs.Stream.{Stream}

-- an inner reader or writer, and how often it has failed
pub record Counted (A : Type 0) : Type 0 where
  pub inner : A
  pub faults : ℕ

-- the source or sink as its callers see it: it doesn't tell its bytes
abbrev pub untold : {A : Type 0} → Counted A → Stream
untold counted = record { bytes = None; faults = counted.faults }

-- what a writer is known to hold grew by some first part of these bytes
abbrev pub GrowsByPrefix : Option (List ℕ) → Option (List ℕ) → List ℕ → Type 0
GrowsByPrefix old new bytes = (count : ℕ) × known.Appends old new (take count bytes)
