-- Units of 1/256 fine cell as floats.
use Rattle.std.proofs.Common.{◌≡◌, ℕ, suc, ◌+◌, ◌*◌, ◌^◌, ◌<◌, ◌≤◌, ◌∙◌, ap₂, arith, false, inl, inr, negsuc, pos, pow_pos, refl, subst, sym}
use Rattle.std.specs.Float.{Float, binary32, fin}
use Rattle.std.specs.Float.Ieee
use lib.Ieee.{mul, of_bits, of_int, round}
use lib.Ieee.Back.{round_whole}
use lib.Ieee.Exact.{HasValue, round_exact}
use lib.Ieee.Positive.{mul_at, positive_of_value}
use native.Mathlib.Nat.{eq-zero-or-pos}
use Rattle.terra_c.specs.Shapes.{cells_of_units}

-- the literal is one unit
pub unit_is : Ieee.of_bits binary32 0x3b800000 ≡ fin false 1 (negsuc 7)
unfolding of_bits
unit_is = refl

-- the product of a unit with a whole number that the format holds is rounded from the fraction
cells_are : (n : ℕ) → 0 < n → n < 2 ^ 24 → cells_of_units n ≡ round binary32 false n 256
unfolding of_int round
cells_are n some small =
    let fits : n ≤ 2 ^ 24 = omega arith in
    let value : HasValue (of_int binary32 (pos n)) false n 1 =
    round_whole binary32 false n fits in
    let unit : HasValue (fin false 1 (negsuc 7)) false 1 256 = (refl, refl) in
    let product = mul_at binary32 (fin false 1 (negsuc 7)) (of_int binary32 (pos n)) 1 256 n 1
    (positive_of_value (fin false 1 (negsuc 7)) 1 256 unit (omega arith))
    (positive_of_value (of_int binary32 (pos n)) n 1 value some) (omega arith) (omega arith)
    unit value in
    let one_n : 1 * n ≡ n = omega arith in
    let den : 256 * 1 ≡ 256 = refl in
    product ∙ ap₂ (round binary32 false) one_n den

-- no units are 0
none : HasValue (cells_of_units 0) false 0 256
unfolding mul of_int round
none = (refl, refl)

-- some are exact, since their float is rounded from a fraction that the format holds
some : (n : ℕ) → 0 < n → n < 2 ^ 24 → HasValue (cells_of_units n) false n 256
some n is_some small =
    let fine : n * 2 ^ 141 < 2 ^ 277 = omega arith in
    let shifted : n * 2 ^ 149 ≡ n * 2 ^ 141 * 256 = omega arith in
    let exact_there = round_exact binary32 false n 256 n 141 (omega arith) small fine shifted in
    subst (λ x. HasValue x false n 256) (sym (cells_are n is_some small)) exact_there

-- units below 2 ^ 24 are exact
pub exact : (n : ℕ) → n < 2 ^ 24 → HasValue (cells_of_units n) false n 256
exact n small = elim (eq-zero-or-pos n) [
  | inl is_none ↦ subst (λ m. HasValue (cells_of_units m) false m 256) (sym is_none) none
  | inr is_some ↦ some n is_some small
]
