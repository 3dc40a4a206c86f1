-- A source or a sink as its callers see it: its bytes, and the count of its faults. This project's
-- rule.
use Rattle.std.specs.Prelude.{◌≡◌, ℕ, ◌⊎◌, List, ◌++◌, Option}
use Rattle.std.specs.Io.KnownBytes.{append_known, prepend_known}
use Rattle.fault_counts.specs.Counts.{HasRisen}

-- the bytes that a source has left or that a sink holds, where it tells them, and how often a call
-- of it has failed
pub record Stream : Type 0 where
  pub bytes : Option (List ℕ)
  pub faults : ℕ

-- a source yielded these bytes, the first of those that it had left; nothing is said of a source that
-- doesn't tell its bytes
pub record Yields (old new : Stream) (taken : List ℕ) : Type 0 where
  pub bytes : old.bytes ≡ prepend_known taken new.bytes

-- a sink took these bytes behind those that it held
pub record Appends (old new : Stream) (added : List ℕ) : Type 0 where
  pub bytes : new.bytes ≡ append_known old.bytes added

-- a sink took some first part of these bytes
pub record AppendsPrefix (old new : Stream) (offered : List ℕ) : Type 0 where
  pub front : List ℕ
  pub rest : List ℕ
  pub parts : offered ≡ front ++ rest
  pub appended : Appends old new front

-- no call failed: the count is the same
abbrev pub IsFaultless : Stream → Stream → Type 0
IsFaultless old new = new.faults ≡ old.faults

-- a call failed
abbrev pub HasFailed : Stream → Stream → Type 0
HasFailed old new = HasRisen old.faults new.faults

-- one call failed: it took nothing and gave nothing
pub record Fails (old new : Stream) : Type 0 where
  pub kept : new.bytes ≡ old.bytes
  pub failed : HasFailed old new

-- these bytes were offered to a sink: it took them all and no call failed, or it took a first part before a call
-- failed
abbrev pub IsOffered : Stream → Stream → List ℕ → Type 0
IsOffered old new offered =
    (Appends old new offered × IsFaultless old new)
    ⊎ (AppendsPrefix old new offered × HasFailed old new)
