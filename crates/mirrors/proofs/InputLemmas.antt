-- What was taken from a source.
-- Nothing (`Yields-none`), one piece after another (`Yields-append`), and no more where a call fails (`Yields-kept`).
-- Of a source that tells its bytes, all of them (`given-whole`) or a first part (`given-part`).
use Rattle.std.proofs.Common.{◌≡◌, ℕ, List, [], ◌++◌, length, take, refl, sym, ap, subst, ◌∙◌, append_assoc}
use Rattle.std.specs.Prelude.{Option, Some, None}
use Rattle.std.specs.Io.KnownBytes.{IsAtEnd, prepend_known}
use Rattle.std.proofs.lemmas.Option.{same_Some, none-some}
use Rattle.std.proofs.lemmas.List.{append-nil}
use Rattle.std.proofs.Math.Seq.{take-append_seam}
use Rattle.terra_io.specs.Stream.{Stream, Yields, Fails, HasFailed, IsFaultless}

-- no bytes before known ones
prepend_known-nil : (o : Option (List ℕ)) → o ≡ prepend_known [] o
prepend_known-nil None = refl
prepend_known-nil (Some bytes) = refl

-- some before others, put together
prepend_known-append : (o : Option (List ℕ)) (xs ys : List ℕ)
    → prepend_known xs (prepend_known ys o) ≡ prepend_known (xs ++ ys) o
prepend_known-append None xs ys = refl
prepend_known-append (Some bytes) xs ys = ap Some (sym (append_assoc xs ys bytes))

-- no bytes are taken from a source that stays as it is
pub Yields-none : (s : Stream) → Yields s s []
Yields-none s = record { bytes = prepend_known-nil s.bytes }

-- bytes that are taken after others
pub Yields-append : (old mid new : Stream) (xs ys : List ℕ) → Yields old mid xs → Yields mid new ys
    → Yields old new (xs ++ ys)
Yields-append old mid new xs ys first second = record {
  bytes = first.bytes ∙ ap (prepend_known xs) second.bytes ∙ prepend_known-append new.bytes xs ys;
}

-- a call that fails takes none
pub Yields-kept : (old mid new : Stream) (xs : List ℕ) → Yields old mid xs → Fails mid new
    → Yields old new xs
Yields-kept old mid new xs first fails = record {
  bytes = first.bytes ∙ ap (prepend_known xs) (sym fails.kept);
}

-- a call failed in the second part
pub HasFailed-after : (old mid new : Stream) → IsFaultless old mid → HasFailed mid new
    → HasFailed old new
HasFailed-after old mid new first second =
    subst (λ n. HasFailed (record old { faults = n }) new) first second

-- what was read into the front of some room, where that is all of the room
pub front-kept : (n : ℕ) (xs ys : List ℕ) → length xs ≡ n → take n (xs ++ ys) ≡ xs
front-kept n xs ys long = subst (λ m. take m (xs ++ ys) ≡ xs) long (take-append_seam xs ys)

-- ---- what a source that tells its bytes gave
-- what was read is a first part of the input, and the rest is left
given : (input read : List ℕ) (left : Option (List ℕ)) → Some input ≡ prepend_known read left
    → (rest : List ℕ) × (left ≡ Some rest) × (input ≡ read ++ rest)
given input read None taken = absurd (none-some input (sym taken))
given input read (Some rest) taken = (rest, refl, same_Some input (read ++ rest) taken)

-- all of it, where nothing is left
pub given-whole : (source source' : Stream) (input read : List ℕ) → source.bytes ≡ Some input
    → Yields source source' read → IsAtEnd source'.bytes → read ≡ input
given-whole source source' input read tells taken end =
    let g = given input read source'.bytes (sym tells ∙ taken.bytes) in
    let none : g.0 ≡ [] = subst IsAtEnd g.1 end in
    sym (g.2 ∙ ap (λ rest. read ++ rest) none ∙ append-nil read)

-- a first part of it
pub given-part : (source source' : Stream) (input read : List ℕ) → source.bytes ≡ Some input
    → Yields source source' read → (rest : List ℕ) × (input ≡ read ++ rest)
given-part source source' input read tells taken =
    let g = given input read source'.bytes (sym tells ∙ taken.bytes) in (g.0, g.2)
