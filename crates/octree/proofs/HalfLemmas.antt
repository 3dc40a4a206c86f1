-- What the bits of a row say of which each two are one, and of a range of indices.
--
-- For `halved` and `bits_among` of `rows.rt`. Eight bits are tried in all cases (`halves-is`), and a row goes by parts
-- of eight (`halved-none`, `halved-more`, `halved-rest`, `halved-all`). A range is the first bits up to its end without
-- the first ones (`among_bits`).
use Rattle.std.proofs.Common.{◌≡◌, ℕ, ◌+◌, ◌-◌, ◌*◌, ◌/◌, ◌%◌, ◌^◌, ◌<◌, ◌≤◌, ◌↔◌, Bool, true, false, inl, inr, refl, sym, ap, ◌∙◌, subst, arith}
use Rattle.std.specs.Bool.{beq}
use Rattle.std.specs.Int.{bit_not, w64}
use Rattle.std.specs.Prelude.{◌==◌, ◌&&◌, ◌||◌, not, bit_and, bit_or, nat_lt}
use Rattle.std.proofs.lemmas.Bool.{and_from, and_parts, cases_lt, le-ltb, lt-ltb, ltb-false, ltb-true, not-true}
use Rattle.std.proofs.Math.Nat.{div-eq_of_lt, mod-eq_of_lt}
use Rattle.std.proofs.Math.Pow.{pow_mono}
use Rattle.std.proofs.lemmas.Nat.{one_shl, or_lt, pow_pos}
use Rattle.std.proofs.lemmas.Nat.Bits.{bit_at-zero, bit_at_cat_high, bit_at_cat_low, bit_at_ones}
use Rattle.octree.specs.SplitBits.{row_bit}
use Rattle.octree.proofs.RowBitLemmas.{all_below, all_below-tells, clear_bits, mask_bit, none_set, or_bits, or_false, part_bit, past_word, piece_fits_at, same_bit}

-- ---- one bit for each two

-- whether one of the two bits is set
abbrev pub either : ℕ → ℕ → Bool
either row i = row_bit row (2 * i) || row_bit row (2 * i + 1)

-- eight bits, as the code has each two of them as one
abbrev pub halves_of : ℕ → ℕ
halves_of bits =
    let ones = bit_and (bit_or bits (bits / 2)) 85 in
    let twos = bit_and (bit_or ones (ones / 2)) 51 in
    bit_and (bit_or twos (twos / 4)) 15

-- whether a bit of the halves is that of the two bits
abbrev half_is : ℕ → ℕ → Bool
half_is bits i = beq (row_bit (halves_of bits) i) (either bits i)

-- it is in all cases
halves_are : all_below 256 (λ bits. all_below 4 (half_is bits)) ≡ true
halves_are = refl

-- so the halves have a bit for each two of eight bits
pub halves-is : (bits i : ℕ) → bits < 256 → i < 4
    → row_bit (halves_of bits) i ≡ either bits i
halves-is bits i bits_in i_in =
    same_bit (row_bit (halves_of bits) i) (either bits i)
    (all_below-tells 4 (half_is bits)
    (all_below-tells 256 (λ bits. all_below 4 (half_is bits)) halves_are bits bits_in) i i_in)

-- none of two bits behind a word is set
pub either-past : (row k i : ℕ) → row < 2 ^ k → k ≤ 2 * i → either row i ≡ false
either-past row k i row_in past =
    (λ t. past_word row k (2 * i) row_in past t
    || past_word row k (2 * i + 1) row_in (omega arith) t)

-- a word has a bit for each two of the first parts of another
pub record IsHalved (row part halves : ℕ) : Type 0 where
  pub fits : halves < 2 ^ (4 * part)
  pub each : (i : ℕ) → i < 4 * part → row_bit halves i ≡ either row i

-- none of no part
pub halved-none : (row : ℕ) → IsHalved row 0 0
halved-none row = record {
  fits = omega arith;
  each = λ i i_in. absurd (omega (arith, i_in));
}

-- the two bits of a part of a word
either-part : (row k i : ℕ) → either (row / 2 ^ (8 * k)) i ≡ either row (4 * k + i)
either-part row k i =
    let low : 8 * k + 2 * i ≡ 2 * (4 * k + i) = omega arith in
    let high : 8 * k + (2 * i + 1) ≡ 2 * (4 * k + i) + 1 = omega arith in
    (λ t. (part_bit row (8 * k) (2 * i) ∙ ap (row_bit row) low) t
    || (part_bit row (8 * k) (2 * i + 1) ∙ ap (row_bit row) high) t)

-- a part more
pub halved-more : (row part halves piece : ℕ) → part < 8 → piece < 2 ^ 4
    → ((i : ℕ) → row_bit piece i ≡ either (bit_and (row / 2 ^ (8 * part)) 255) i)
    → IsHalved row part halves
    → IsHalved row (part + 1) (bit_or halves (piece * 2 ^ (4 * part) % 2 ^ 64))
halved-more row part halves piece part_in piece_in rule so_far =
    let k = 4 * part in
    let within : piece * 2 ^ k < 2 ^ (4 * (part + 1)) =
    subst (λ n. piece * 2 ^ k < 2 ^ n) (let e : 4 + 4 * part ≡ 4 * (part + 1) = omega arith in e)
    (piece_fits_at piece 4 k piece_in) in
    let last : 4 * (part + 1) ≤ 64 = omega arith in
    let rise : 2 ^ (4 * (part + 1)) ≤ 2 ^ 64 = pow_mono last in
    let rises : 2 ^ k ≤ 2 ^ (4 * (part + 1)) = pow_mono (omega arith) in
    let fits : piece * 2 ^ k < 2 ^ 64 = omega (arith, within, rise) in
    let whole : piece * 2 ^ k % 2 ^ 64 ≡ piece * 2 ^ k = mod-eq_of_lt fits in
    let plain : piece * 2 ^ k ≡ piece * 2 ^ k + 0 = omega arith in
    record {
      fits = subst (λ w. bit_or halves w < 2 ^ (4 * (part + 1))) (sym whole)
          (or_lt (4 * (part + 1)) halves (piece * 2 ^ k)
          (omega (arith, so_far.fits, rises)) within);
      each = λ i i_in.
          ap (λ w. row_bit (bit_or halves w) i) (whole ∙ plain)
          ∙ or_bits halves (piece * 2 ^ k + 0) i
          ∙ elim (cases_lt i k) [
            | inl low ↦
                ap (λ d. row_bit halves i || d == 1)
                (bit_at_cat_low piece k 0 i low ∙ bit_at-zero i)
                ∙ or_false (row_bit halves i)
                ∙ so_far.each i low
            | inr high ↦
                let small : i - k < 4 = omega (arith, i_in, high) in
                let there : 4 * part + (i - k) ≡ i = omega (arith, high) in
                let rest = row / 2 ^ (8 * part) in
                ap (λ d. d || row_bit (piece * 2 ^ k + 0) i) (past_word halves k i so_far.fits high)
                ∙ ap (λ d. d == 1) (bit_at_cat_high piece k 0 i (pow_pos k) high)
                ∙ rule (i - k)
                ∙ (λ t. mask_bit rest (2 * (i - k)) (omega arith) t
                || mask_bit rest (2 * (i - k) + 1) (omega arith) t)
                ∙ either-part row part (i - k)
                ∙ ap (either row) there
          ];
    }

-- where nothing is left, all is done
pub halved-rest : (row part halves : ℕ) → row / 2 ^ (8 * part) ≡ 0 → IsHalved row part halves
    → (i : ℕ) → row_bit halves i ≡ either row i
halved-rest row part halves none so_far i =
    elim (cases_lt i (4 * part)) [
      | inl within ↦ so_far.each i within
      | inr past ↦
          let rest = i - 4 * part in
          let there : 4 * part + rest ≡ i = omega (arith, past) in
          past_word halves (4 * part) i so_far.fits past
          ∙ sym (ap (either row) (sym there) ∙ sym (either-part row part rest)
          ∙ ap (λ w. either w rest) none
          ∙ (λ t. none_set (2 * rest) t || none_set (2 * rest + 1) t))
    ]

-- after eight parts nothing is left
pub halved-all : (row part halves : ℕ) → row < 2 ^ 64 → 8 ≤ part → IsHalved row part halves
    → (i : ℕ) → row_bit halves i ≡ either row i
halved-all row part halves row_in all so_far =
    let last : 64 ≤ 8 * part = omega arith in
    let rise : 2 ^ 64 ≤ 2 ^ (8 * part) = pow_mono last in
    halved-rest row part halves (div-eq_of_lt (omega (arith, row_in, rise))) so_far

-- ---- a range of indices

-- so many ones
pub first_is : (count : ℕ) → count < 64 → 1 * 2 ^ count % 2 ^ 64 - 1 ≡ 2 ^ count - 1
first_is count short = ap (λ n. n - 1) (one_shl count 64 short)

-- are the first bits
pub first_each : (count i : ℕ) → row_bit (2 ^ count - 1) i ≡ nat_lt i count
first_each count i =
    elim (cases_lt i count) [
      | inl within ↦ ap (λ d. d == 1) (bit_at_ones count i within) ∙ sym (lt-ltb i count within)
      | inr past ↦
          past_word (2 ^ count - 1) count i (omega (arith, pow_pos count)) past
          ∙ sym (le-ltb i count past)
    ]

-- the first bits up to the end of a range without those before it
pub among_bits : (low end a b : ℕ) → a < 2 ^ 64 → b < 2 ^ 64
    → ((i : ℕ) → row_bit a i ≡ nat_lt i end) → ((i : ℕ) → row_bit b i ≡ nat_lt i low) → (i : ℕ)
    → (row_bit (bit_and a (bit_not w64 b)) i ≡ true) ↔ ((low ≤ i) × (i < end))
among_bits low end a b a_in b_in ends lows i =
    let is : row_bit (bit_and a (bit_not w64 b)) i ≡ (nat_lt i end && not (nat_lt i low)) =
    clear_bits a b i a_in b_in ∙ (λ t. ends i t && not (lows i t)) in (
      (λ h.
          let parts = and_parts (nat_lt i end) (not (nat_lt i low)) (sym is ∙ h) in
          (ltb-false i low (not-true (nat_lt i low) parts.1), ltb-true i end parts.0)),
      (λ h. is ∙ and_from (nat_lt i end) (not (nat_lt i low)) (lt-ltb i end h.1)
          (ap not (le-ltb i low h.0))),
    )
