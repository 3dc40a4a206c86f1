-- Lines of text, written piece by piece.
use Rattle.std.proofs.Common.{◌≡◌, ℕ, ◌+◌, ◌≤◌, List, ◌++◌, drop, length, take, length-append, subst, sym, ap, codes, decimal, ◌*◌, ◌/◌, ◌%◌, ◌∙◌, arith}
use Rattle.std.proofs.Math.Seq.{take-append-add}
use Rattle.std.proofs.lemmas.List.{append_assoc, length-take-le, take-append-drop, take-append-le}
use Rattle.lattice.specs.declared.point.TheConstants.{UNITS}
use Rattle.digits.specs.Lines.{Puts}
use Rattle.digits.specs.Digits.{UNIT_DIGITS, coordinate_text, eight_digits}
use Rattle.digits.proofs.DigitLemmas.{fraction}

-- what was written is an equal text
pub puts-same : (old new : List ℕ) (at end : ℕ) (a b : List ℕ) → Puts old new at end a → a ≡ b
    → Puts old new at end b
puts-same old new at end a b written same = subst (λ text. Puts old new at end text) same written

-- one text is written behind another
pub puts-more : (old between new : List ℕ) (at middle end : ℕ) (a b : List ℕ)
    → Puts old between at middle a → Puts between new middle end b → Puts old new at end (a ++ b)
puts-more old between new at middle end a b first second = record {
  long = second.long ∙ first.long;
  behind = omega (arith, first.behind, second.behind, length-append a b);
  front =
      second.front ∙ ap (λ xs. xs ++ b) first.front ∙ append_assoc (take at old) a b;
}

-- a coordinate is its cells, and behind them its fraction
pub coordinate-parts : (units cells : ℕ) → cells ≡ units / UNITS
    → (codes " " ++ decimal cells) ++ fraction (units % UNITS) ≡ codes " " ++ coordinate_text units
coordinate-parts units cells same =
    ap (λ n. (codes " " ++ decimal n) ++ fraction (units % UNITS)) same
    ∙ append_assoc (codes " ") (decimal (units / UNITS)) (fraction (units % UNITS))
    ∙ ap (λ xs. codes " " ++ xs) (sym (append_assoc (decimal (units / UNITS)) (codes ".")
    (eight_digits (units % UNITS * UNIT_DIGITS))))

-- the first bytes of what was put
pub puts-first : (old new : List ℕ) (at end n : ℕ) (bytes : List ℕ) → Puts old new at end bytes
    → n ≤ length bytes → at ≤ length old → Puts old new at (at + n) (take n bytes)
puts-first old new at end n bytes written few room =
    let begun : length (take at old) ≡ at = length-take-le at old room in
    let whole : List ℕ = take at old ++ bytes in
    let within : at + n ≤ length whole =
    omega (arith, few, begun, length-append (take at old) bytes) in
    record {
      long = written.long;
      behind = omega (arith, length-take-le n bytes few);
      front =
          ap (take (at + n)) (sym (take-append-drop end new)
          ∙ ap (λ t. t ++ drop end new) written.front)
          ∙ take-append-le (at + n) whole (drop end new) within
          ∙ ap (λ k. take (k + n) whole) (sym begun) ∙ take-append-add (take at old) bytes n;
    }
