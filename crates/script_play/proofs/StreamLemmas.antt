-- One piece after another, taken from a source, and faults over several calls.
use Rattle.std.proofs.Common.{◌≡◌, ℕ, List, [], ◌++◌, refl, sym, ap, subst, ◌∙◌, append_assoc}
use Rattle.std.specs.Prelude.{Option, Some, None}
use Rattle.std.specs.Io.KnownBytes.{prepend_known}
use Rattle.fault_counts.specs.Counts.{HasRisen}
use Rattle.terra_io.specs.Stream.{Stream, Yields, IsFaultless, HasFailed}

-- ---- known bytes with none before them, and with some before others

-- none before
prepend_known-nil : (o : Option (List ℕ)) → o ≡ prepend_known [] o
prepend_known-nil None = refl
prepend_known-nil (Some bytes) = refl

-- some before others, put together
prepend_known-append : (o : Option (List ℕ)) (xs ys : List ℕ)
    → prepend_known xs (prepend_known ys o) ≡ prepend_known (xs ++ ys) o
prepend_known-append None xs ys = refl
prepend_known-append (Some bytes) xs ys = ap Some (sym (append_assoc xs ys bytes))

-- no bytes are taken from a source that stays as it is
pub Yields-none : (s : Stream) → Yields s s []
Yields-none s = record { bytes = prepend_known-nil s.bytes }

-- bytes that are taken after others
pub Yields-append : (old mid new : Stream) (xs ys : List ℕ) → Yields old mid xs → Yields mid new ys
    → Yields old new (xs ++ ys)
Yields-append old mid new xs ys first second = record {
  bytes = first.bytes ∙ ap (prepend_known xs) second.bytes ∙ prepend_known-append new.bytes xs ys;
}

-- no call failed in either part
pub IsFaultless-trans : (old mid new : Stream) → IsFaultless old mid → IsFaultless mid new
    → IsFaultless old new
IsFaultless-trans old mid new first second = second ∙ first

-- a call failed in the second part
pub HasFailed-after : (old mid new : Stream) → IsFaultless old mid → HasFailed mid new
    → HasFailed old new
HasFailed-after old mid new first second = subst (λ n. HasRisen n new.faults) first second
