-- What the bits of a row say: of words together (`or_bits`, `and_bits`, `clear_bits`, `xor_bits`), of a word that is
-- shifted (`before`, `behind`), and of one that has each bit twice.
--
-- For `rows.rt`, and for the rows of leaves and of switched nodes.
use Rattle.std.proofs.Common.{◌≡◌, ℕ, zero, suc, ◌+◌, ◌-◌, ◌*◌, ◌/◌, ◌%◌, ◌^◌, ◌<◌, ◌≤◌, min, max, Bool, true, false, inl, inr, refl, sym, ap, ◌∙◌, subst, add-one, arith}
use Rattle.std.specs.Bool.{beq}
use Rattle.std.specs.Int.{bit_at, bit_not, trailing_zeros, w64}
use Rattle.std.specs.Prelude.{◌==◌, ◌&&◌, ◌||◌, not, bit_and, bit_or, bit_xor, nat_lt}
use Rattle.std.proofs.lemmas.Bool.{and_parts, cases_eq, cases_lt, false≢true, lt-ltb}
use Rattle.std.proofs.Math.Nat.{div-eq_of_lt, mod-eq_of_lt}
use Rattle.std.proofs.Math.Pow.{pow_mono}
use Rattle.std.proofs.lemmas.Nat.{and_le_l, and_le_r, mul-le, or_lt, pow-add, pow_pos, shr-shr}
use Rattle.std.proofs.lemmas.Nat.Bits.{bit_at-lt, bit_at-suc, bit_at-trailing_zeros, bit_at-zero, bit_at_above, bit_at_and, bit_at_cat_high, bit_at_cat_low, bit_at_clear_other, bit_at_clear_same, bit_at_lowest, bit_at_not, bit_at_ones, bit_at_or, bit_at_xor, ones_shr}
use Rattle.octree.specs.SplitBits.{row_bit}

-- ---- words together

-- a digit is 0 or 1
two_cases : (P : ℕ → Type 0) (n : ℕ) → n < 2 → P 0 → P 1 → P n
two_cases P n low none one =
    elim (cases_eq n 0) [
      | inl zero_is ↦ subst P (sym zero_is) none
      | inr other ↦ (let one_is : 1 ≡ n = omega arith in subst P one_is one)
    ]

-- the greater of two digits is 1 where one is
or_digits : (a b : ℕ) → a < 2 → b < 2 → (max a b == 1) ≡ ((a == 1) || (b == 1))
or_digits a b a_low b_low =
    two_cases (λ a. (max a b == 1) ≡ ((a == 1) || (b == 1))) a a_low
    (two_cases (λ b. (max 0 b == 1) ≡ ((0 == 1) || (b == 1))) b b_low refl refl)
    (two_cases (λ b. (max 1 b == 1) ≡ ((1 == 1) || (b == 1))) b b_low refl refl)

-- the lesser is 1 where both are
and_digits : (a b : ℕ) → a < 2 → b < 2 → (min a b == 1) ≡ ((a == 1) && (b == 1))
and_digits a b a_low b_low =
    two_cases (λ a. (min a b == 1) ≡ ((a == 1) && (b == 1))) a a_low
    (two_cases (λ b. (min 0 b == 1) ≡ ((0 == 1) && (b == 1))) b b_low refl refl)
    (two_cases (λ b. (min 1 b == 1) ≡ ((1 == 1) && (b == 1))) b b_low refl refl)

-- their sum is odd where they differ
xor_digits : (a b : ℕ) → a < 2 → b < 2 → ((a + b) % 2 == 1) ≡ not (beq (a == 1) (b == 1))
xor_digits a b a_low b_low =
    two_cases (λ a. ((a + b) % 2 == 1) ≡ not (beq (a == 1) (b == 1))) a a_low
    (two_cases (λ b. ((0 + b) % 2 == 1) ≡ not (beq (0 == 1) (b == 1))) b b_low refl refl)
    (two_cases (λ b. ((1 + b) % 2 == 1) ≡ not (beq (1 == 1) (b == 1))) b b_low refl refl)

-- the other digit is 1 where one isn't
not_digit : (a : ℕ) → a < 2 → (1 - a == 1) ≡ not (a == 1)
not_digit a low = two_cases (λ a. (1 - a == 1) ≡ not (a == 1)) a low refl refl

-- the bits of two words together
pub or_bits : (a b i : ℕ) → row_bit (bit_or a b) i ≡ (row_bit a i || row_bit b i)
or_bits a b i =
    ap (λ d. d == 1) (bit_at_or a b i)
    ∙ or_digits (bit_at a i) (bit_at b i) (bit_at-lt a i) (bit_at-lt b i)

-- those that both have
pub and_bits : (a b i : ℕ) → row_bit (bit_and a b) i ≡ (row_bit a i && row_bit b i)
and_bits a b i =
    ap (λ d. d == 1) (bit_at_and a b i)
    ∙ and_digits (bit_at a i) (bit_at b i) (bit_at-lt a i) (bit_at-lt b i)

-- those that one of them has alone
pub xor_bits : (a b i : ℕ) → row_bit (bit_xor a b) i ≡ not (beq (row_bit a i) (row_bit b i))
xor_bits a b i =
    ap (λ d. d == 1) (bit_at_xor a b i)
    ∙ xor_digits (bit_at a i) (bit_at b i) (bit_at-lt a i) (bit_at-lt b i)

-- behind its digits a word has none
pub past_word : (a k i : ℕ) → a < 2 ^ k → k ≤ i → row_bit a i ≡ false
past_word a k i a_in past = ap (λ d. d == 1) (bit_at_above a k i a_in past)

-- those that a word hasn't
pub not_bits : (a i : ℕ) → a < 2 ^ 64 → i < 64 → row_bit (bit_not w64 a) i ≡ not (row_bit a i)
not_bits a i a_in i_in =
    ap (λ d. d == 1) (bit_at_not w64 a i a_in i_in) ∙ not_digit (bit_at a i) (bit_at-lt a i)

-- a bit together with a set one
pub and_true : (b : Bool) → (b && true) ≡ b
and_true true = refl
and_true false = refl

-- and beside one that isn't
pub or_false : (b : Bool) → (b || false) ≡ b
or_false true = refl
or_false false = refl

-- those of the first word that the second hasn't
pub clear_bits : (a b i : ℕ) → a < 2 ^ 64 → b < 2 ^ 64
    → row_bit (bit_and a (bit_not w64 b)) i ≡ (row_bit a i && not (row_bit b i))
clear_bits a b i a_in b_in =
    and_bits a (bit_not w64 b) i
    ∙ elim (cases_lt i 64) [
      | inl i_in ↦ ap (λ d. row_bit a i && d) (not_bits b i b_in i_in)
      | inr past ↦
          let off = past_word a 64 i a_in past in
          ap (λ d. d && row_bit (bit_not w64 b) i) off
          ∙ sym (ap (λ d. d && not (row_bit b i)) off)
    ]

-- 0 has none
pub none_set : (i : ℕ) → row_bit 0 i ≡ false
none_set i = ap (λ d. d == 1) (bit_at-zero i)

-- ---- the first bits of a word

-- so many ones
ones_of : (a : ℕ) → a ≤ 64 → (2 ^ 64 - 1) / 2 ^ (64 - a) ≡ 2 ^ a - 1
ones_of a a_in =
    let back : 64 - (64 - a) ≡ a = omega arith in
    ones_shr 64 (64 - a) (omega arith) ∙ ap (λ k. 2 ^ k - 1) back

-- a word has no more than the ones that are asked of it
pub masked-in : (w a : ℕ) → a ≤ 64 → bit_and w ((2 ^ 64 - 1) / 2 ^ (64 - a)) < 2 ^ a
masked-in w a a_in =
    omega (
      arith,
      and_le_r w ((2 ^ 64 - 1) / 2 ^ (64 - a)),
      ones_of a a_in,
      pow_pos a,
    )

-- its bits before that place are kept
pub masked-low : (w a i : ℕ) → a ≤ 64 → i < a
    → row_bit (bit_and w ((2 ^ 64 - 1) / 2 ^ (64 - a))) i ≡ row_bit w i
masked-low w a i a_in i_in =
    and_bits w ((2 ^ 64 - 1) / 2 ^ (64 - a)) i
    ∙ ap (λ d. row_bit w i && d == 1)
    (ap (λ m. bit_at m i) (ones_of a a_in) ∙ bit_at_ones a i i_in)
    ∙ and_true (row_bit w i)

-- and it has no other
pub masked-high : (w a i : ℕ) → a ≤ 64 → a ≤ i
    → row_bit (bit_and w ((2 ^ 64 - 1) / 2 ^ (64 - a))) i ≡ false
masked-high w a i a_in past = past_word _ a i (masked-in w a a_in) past

-- ---- the lowest bit of a word

module _ (rest : ℕ) (some : 0 < rest) (fits : rest < 2 ^ 64) where
  -- its place
  abbrev pub lowest : ℕ
  lowest = trailing_zeros w64 rest

  -- the word without it
  abbrev pub without : ℕ
  without = bit_and rest (bit_not w64 (1 * 2 ^ lowest % 2 ^ 64))

  -- the bit is set
  pub lowest-set : row_bit rest lowest ≡ true
  lowest-set = ap (λ d. d == 1) (bit_at-trailing_zeros w64 rest some fits).1

  -- none is set below it
  pub lowest-first : (i : ℕ) → i < lowest → row_bit rest i ≡ false
  lowest-first i below = ap (λ d. d == 1) ((bit_at-trailing_zeros w64 rest some fits).2 i below)

  -- it is cleared
  pub cleared-here : row_bit without lowest ≡ false
  cleared-here = ap (λ d. d == 1)
      (bit_at_clear_same w64 rest lowest (bit_at-trailing_zeros w64 rest some fits).0)

  -- no other bit is
  pub cleared-other : (i : ℕ) → (i ≡ lowest → ⊥) → row_bit without i ≡ row_bit rest i
  cleared-other i apart =
      elim (cases_lt i 64) [
        | inl within ↦
            ap (λ d. d == 1) (bit_at_clear_other w64 rest lowest
            (bit_at-trailing_zeros w64 rest some fits).0 i within apart)
        | inr past ↦
            let low : without < 2 ^ 64 =
            omega (arith, and_le_l rest (bit_not w64 (1 * 2 ^ lowest % 2 ^ 64)), fits) in
            past_word without 64 i low past ∙ sym (past_word rest 64 i fits past)
      ]

  -- so the word becomes less
  pub cleared-less : without < rest
  cleared-less =
      let most = and_le_l rest (bit_not w64 (1 * 2 ^ lowest % 2 ^ 64)) in
      elim (cases_eq without rest) [
        | inl same ↦
            absurd (false≢true (sym cleared-here ∙ ap (λ w. row_bit w lowest) same ∙ lowest-set))
        | inr apart ↦ omega (arith, most, apart)
      ]

-- ---- words that are shifted

-- of twice a word each bit is one place further
pub before : (row i : ℕ) → row < 2 ^ 32
    → row_bit (row * 2 ^ 1 % 2 ^ 64) i ≡ (nat_lt 0 i && row_bit row (i - 1))
before row zero row_in =
    let twice : row * 2 ^ 1 % 2 ^ 64 ≡ row * 2 = omega arith in
    let even : row * 2 % 2 ≡ 0 = omega arith in
    ap (λ w. row_bit w 0) twice ∙ ap (λ d. d == 1) (bit_at_lowest (row * 2) ∙ even)
before row (suc i) row_in =
    let twice : row * 2 ^ 1 % 2 ^ 64 ≡ row * 2 = omega arith in
    let half : row * 2 / 2 ≡ row = omega arith in
    let same : suc i - 1 ≡ i = omega arith in
    ap (λ w. row_bit w (suc i)) twice
    ∙ ap (λ d. d == 1) (bit_at-suc (row * 2) i ∙ ap (λ w. bit_at w i) half)
    ∙ ap (row_bit row) (sym same)
    ∙ sym (ap (λ b. b && row_bit row (suc i - 1)) (lt-ltb 0 (suc i) (omega arith)))

-- of half a word each bit is one place nearer
pub behind : (row i : ℕ) → row_bit (row / 2 ^ 1) i ≡ row_bit row (i + 1)
behind row i =
    sym (ap (λ d. d == 1) (bit_at-suc row i)) ∙ ap (row_bit row) (sym (add-one i))

-- ---- each bit twice

-- a test of all numbers below one
abbrev pub all_below : ℕ → (ℕ → Bool) → Bool
all_below zero test = true
all_below (suc n) test = test n && all_below n test

-- where it passes, each of them does
pub all_below-tells : (n : ℕ) (test : ℕ → Bool) → all_below n test ≡ true → (i : ℕ) → i < n
    → test i ≡ true
all_below-tells zero test all i i_in = absurd (omega arith)
all_below-tells (suc n) test all i i_in =
    let parts = and_parts (test n) (all_below n test) all in
    elim (cases_eq i n) [
      | inl last ↦ ap test last ∙ parts.0
      | inr before ↦ all_below-tells n test parts.1 i (omega arith)
    ]

-- eight bits, as the code has each of them twice
abbrev pub pairs_of : ℕ → ℕ
pairs_of bits =
    let fours = bit_and (bit_or bits (bits * 16 % 2 ^ 64)) 3855 in
    let twos = bit_and (bit_or fours (fours * 4 % 2 ^ 64)) 13107 in
    let ones = bit_and (bit_or twos (twos * 2 % 2 ^ 64)) 21845 in
    bit_or ones (ones * 2 % 2 ^ 64)

-- whether a bit of the pairs is that of the bits
abbrev pair_is : ℕ → ℕ → Bool
pair_is bits i = beq (row_bit (pairs_of bits) i) (row_bit bits (i / 2))

-- it is in all cases
pairs_are : all_below 256 (λ bits. all_below 16 (pair_is bits)) ≡ true
pairs_are = refl

-- equal bits from their test
pub same_bit : (a b : Bool) → beq a b ≡ true → a ≡ b
same_bit true true h = refl
same_bit true false h = absurd (false≢true h)
same_bit false true h = absurd (false≢true h)
same_bit false false h = refl

-- so the pairs have each of eight bits twice
pub pairs-is : (bits i : ℕ) → bits < 256 → i < 16
    → row_bit (pairs_of bits) i ≡ row_bit bits (i / 2)
pairs-is bits i bits_in i_in =
    same_bit (row_bit (pairs_of bits) i) (row_bit bits (i / 2))
    (all_below-tells 16 (pair_is bits)
    (all_below-tells 256 (λ bits. all_below 16 (pair_is bits)) pairs_are bits bits_in) i i_in)

-- the bits of a part of a word
pub part_bit : (row k i : ℕ) → row_bit (row / 2 ^ k) i ≡ row_bit row (k + i)
part_bit row k i = ap (λ d. d % 2 == 1) (shr-shr row k i)

-- so many of its first bits
pub mask_bit : (a i : ℕ) → i < 8 → row_bit (bit_and a 255) i ≡ row_bit a i
mask_bit a i i_in =
    let ones : bit_at 255 i ≡ 1 = bit_at_ones 8 i i_in in
    and_bits a 255 i ∙ ap (λ d. row_bit a i && d == 1) ones ∙ and_true (row_bit a i)

-- a word has each bit twice of the first parts of another
pub record IsDoubled (row part pairs : ℕ) : Type 0 where
  pub fits : pairs < 2 ^ (16 * part)
  pub each : (i : ℕ) → i < 16 * part → row_bit pairs i ≡ row_bit row (i / 2)

-- none of no part
pub doubled-none : (row : ℕ) → IsDoubled row 0 0
doubled-none row = record {
  fits = omega arith;
  each = λ i i_in. absurd (omega (arith, i_in));
}

-- a piece of some digits that is put behind others is within those of both
pub piece_fits_at : (piece size at : ℕ) → piece < 2 ^ size → piece * 2 ^ at < 2 ^ (size + at)
piece_fits_at piece size at piece_in =
    let power : 2 ^ (size + at) ≡ 2 ^ size * 2 ^ at = pow-add 2 size at in
    let some = pow_pos at in
    let product : (piece + 1) * 2 ^ at ≤ 2 ^ size * 2 ^ at =
    mul-le (piece + 1) (2 ^ at) (2 ^ size) (2 ^ at) (omega arith) (omega arith) in
    let more : (piece + 1) * 2 ^ at ≡ piece * 2 ^ at + 2 ^ at = grind arith in
    omega (arith, power, some, product, more)

-- so one behind the parts so far is within those and one more
piece_fits : (piece part : ℕ) → piece < 2 ^ 16 → part < 4
    → piece * 2 ^ (16 * part) < 2 ^ (16 * (part + 1))
piece_fits piece part piece_in part_in =
    let next : 16 + 16 * part ≡ 16 * (part + 1) = omega arith in
    subst (λ n. piece * 2 ^ (16 * part) < 2 ^ n) next (piece_fits_at piece 16 (16 * part) piece_in)

-- a part more
pub doubled-more : (row part pairs piece : ℕ) → part < 4 → piece < 2 ^ 16
    → ((i : ℕ) → row_bit piece i ≡ row_bit (bit_and (row / 2 ^ (8 * part)) 255) (i / 2))
    → IsDoubled row part pairs
    → IsDoubled row (part + 1) (bit_or pairs (piece * 2 ^ (16 * part) % 2 ^ 64))
doubled-more row part pairs piece part_in piece_in rule so_far =
    let k = 16 * part in
    let within = piece_fits piece part piece_in part_in in
    let last : 16 * (part + 1) ≤ 64 = omega arith in
    let rise : 2 ^ (16 * (part + 1)) ≤ 2 ^ 64 = pow_mono last in
    let rises : 2 ^ k ≤ 2 ^ (16 * (part + 1)) = pow_mono (omega arith) in
    let fits : piece * 2 ^ k < 2 ^ 64 = omega (arith, within, rise) in
    let whole : piece * 2 ^ k % 2 ^ 64 ≡ piece * 2 ^ k = mod-eq_of_lt fits in
    let plain : piece * 2 ^ k ≡ piece * 2 ^ k + 0 = omega arith in
    record {
      fits = subst (λ w. bit_or pairs w < 2 ^ (16 * (part + 1))) (sym whole)
          (or_lt (16 * (part + 1)) pairs (piece * 2 ^ k)
          (omega (arith, so_far.fits, rises)) within);
      each = λ i i_in.
          ap (λ w. row_bit (bit_or pairs w) i) (whole ∙ plain)
          ∙ or_bits pairs (piece * 2 ^ k + 0) i
          ∙ elim (cases_lt i k) [
            | inl low ↦
                ap (λ d. row_bit pairs i || d == 1)
                (bit_at_cat_low piece k 0 i low ∙ bit_at-zero i)
                ∙ or_false (row_bit pairs i)
                ∙ so_far.each i low
            | inr high ↦
                let half : (i - k) / 2 < 8 = omega (arith, i_in, high) in
                let there : 8 * part + (i - k) / 2 ≡ i / 2 = omega (arith, high) in
                ap (λ d. d || row_bit (piece * 2 ^ k + 0) i) (past_word pairs k i so_far.fits high)
                ∙ ap (λ d. d == 1) (bit_at_cat_high piece k 0 i (pow_pos k) high)
                ∙ rule (i - k)
                ∙ mask_bit (row / 2 ^ (8 * part)) ((i - k) / 2) half
                ∙ part_bit row (8 * part) ((i - k) / 2)
                ∙ ap (row_bit row) there
          ];
    }

-- where nothing is left, all is done
pub doubled-rest : (row part pairs : ℕ) → row / 2 ^ (8 * part) ≡ 0 → IsDoubled row part pairs
    → (i : ℕ) → row_bit pairs i ≡ row_bit row (i / 2)
doubled-rest row part pairs none so_far i =
    elim (cases_lt i (16 * part)) [
      | inl within ↦ so_far.each i within
      | inr past ↦
          let rest = i / 2 - 8 * part in
          let there : 8 * part + rest ≡ i / 2 = omega (arith, past) in
          past_word pairs (16 * part) i so_far.fits past
          ∙ sym (ap (row_bit row) (sym there) ∙ sym (part_bit row (8 * part) rest)
          ∙ ap (λ w. row_bit w rest) none ∙ none_set rest)
    ]

-- after four parts nothing is left
pub doubled-all : (row part pairs : ℕ) → row < 2 ^ 32 → 4 ≤ part → IsDoubled row part pairs
    → (i : ℕ) → row_bit pairs i ≡ row_bit row (i / 2)
doubled-all row part pairs row_in all so_far =
    let last : 32 ≤ 8 * part = omega arith in
    let rise : 2 ^ 32 ≤ 2 ^ (8 * part) = pow_mono last in
    doubled-rest row part pairs (div-eq_of_lt (omega (arith, row_in, rise))) so_far
