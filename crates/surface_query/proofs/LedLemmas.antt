-- A number behind two bytes: it is put behind a blank, and the bytes are set over the blank and what was before it.
use Rattle.std.proofs.Common.{◌≡◌, ℕ, ◌+◌, ◌<◌, List, [], ◌∷◌, ◌++◌, get_or, length, take, set, sym, ap, ◌∙◌, arith, append_assoc, length-append}
use Rattle.std.proofs.Math.Seq.{take-set-lt}
use Rattle.std.proofs.lemmas.List.{length-set, length-take-le, set_at, take_more}
use Rattle.digits.specs.Lines.{Puts}

-- the second of two elements behind others, and the first, are set
set-two : (front text : List ℕ) (at c blank a b : ℕ) → length front ≡ at
    → set (set (front ++ c ∷ blank ∷ text) at a) (at + 1) b ≡ front ++ a ∷ b ∷ text
set-two front text at c blank a b long =
    let longer : length (front ++ a ∷ []) ≡ at + 1 =
    omega (arith, long, length-append front (a ∷ [])) in
    ap (λ xs. set xs (at + 1) b) (set_at front c (blank ∷ text) a at long)
    ∙ ap (λ xs. set xs (at + 1) b) (sym (append_assoc front (a ∷ []) (blank ∷ text)))
    ∙ set_at (front ++ a ∷ []) blank text b (at + 1) longer
    ∙ append_assoc front (a ∷ []) (b ∷ text)

-- the line with two bytes over the blank
pub led : (old put new : List ℕ) (at end blank a b : ℕ) (text : List ℕ)
    → Puts old put (at + 1) end (blank ∷ text) → at < length old
    → new ≡ set (set put at a) (at + 1) b → Puts old new at end (a ∷ b ∷ text)
led old put new at end blank a b text written room is =
    let first = set put at a in
    let below : at + 1 < end = omega (arith, written.behind) in
    let begun : length (take at old) ≡ at = length-take-le at old (omega (arith, room)) in
    let parts : take (at + 1) old ++ blank ∷ text
    ≡ take at old ++ get_or old at 0 ∷ blank ∷ text =
    ap (λ xs. xs ++ blank ∷ text) (take_more old at 0 room)
    ∙ append_assoc (take at old) (get_or old at 0 ∷ []) (blank ∷ text) in
    record {
      long = ap length is ∙ length-set first (at + 1) b ∙ length-set put at a ∙ written.long;
      behind = omega (arith, written.behind);
      front =
          ap (take end) is ∙ take-set-lt end first (at + 1) b below
          ∙ ap (λ xs. set xs (at + 1) b) (take-set-lt end put at a (omega (arith, below)))
          ∙ ap (λ xs. set (set xs at a) (at + 1) b) (written.front ∙ parts)
          ∙ set-two (take at old) text at (get_or old at 0) blank a b begun;
    }
