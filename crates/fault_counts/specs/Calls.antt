-- Calls that are counted, of which some are told to fail by their number. This project's rule.
use Rattle.std.specs.Prelude.{ℕ, List, Contains}
use Rattle.fault_counts.specs.Counts.{next_count}

-- the calls so far, how many of them failed, and the numbers, from 1, of those that are to fail
pub record Calls : Type 0 where
  pub made : ℕ
  pub faults : ℕ
  pub fails : List ℕ

-- no call yet
abbrev pub no_calls : List ℕ → Calls
no_calls fails = record { made = 0; faults = 0; fails = fails }

-- the next call is to fail
abbrev pub IsToFail : Calls → Type 0
IsToFail calls = Contains calls.fails (next_count calls.made)

-- the calls after one that did not fail
abbrev pub after_success : Calls → Calls
after_success calls = record calls { made = next_count calls.made }

-- the calls after one that failed
abbrev pub after_fault : Calls → Calls
after_fault calls = record calls { made = next_count calls.made; faults = next_count calls.faults }
