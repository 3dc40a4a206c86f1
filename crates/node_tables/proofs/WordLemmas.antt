-- What the bits of words say after a word is written, and where the first one is; for the functions of `words`. A bit
-- is told by its word and its digit there. So writing a word changes the bits of that word alone, and writing one
-- with a digit set or cleared changes one bit (`has_bit-changed`). Where all words are gone through, the bits of
-- those so far are made of both lists' bits, digit by digit (`or_words`, `and_words`, `clear_words`, `Changed-more`).
-- The first bit from a place on is that of the lowest digit of the first word that isn't 0, where the digits below
-- the place were taken out of its own word (`from_bit`, `IsNext-first`, `IsNext-in_word`), and there is none where
-- all are 0 (`NoneBefore-all`).
use Rattle.std.proofs.Common.{◌≡◌, ◌≢◌, ℕ, ◌+◌, ◌-◌, ◌*◌, ◌/◌, ◌%◌, ◌^◌, ◌<◌, ◌≤◌, min, max, Bool, true, false, List, length, get_or, take, drop, ◌++◌, refl, sym, ap, ◌∙◌, subst, inl, inr, arith}
use Rattle.std.specs.Prelude.{◌==◌, ◌&&◌, ◌||◌, not, bit_and, bit_or, replicate}
use Rattle.std.specs.Int.{bit_at, bit_not, trailing_zeros, w64}
use Rattle.std.proofs.Math.ListN.{set}
use Rattle.std.proofs.Math.Seq.{take-append_seam}
use Rattle.std.proofs.lemmas.Bool.{cases_eq, cases_lt}
use Rattle.std.proofs.lemmas.List.{get_or-set_same, get_or-replicate, get_or-set_other, get_or_past, length-replicate}
use Rattle.std.proofs.lemmas.Nat.{and_le_l, div-mul-add, mod-mul-add}
use Rattle.std.proofs.lemmas.Nat.Bits.{bit_at-lt, bit_at-trailing_zeros, bit_at-zero, bit_at_and, bit_at_clear_other, bit_at_clear_same, bit_at_mask_below, bit_at_mask_inside, bit_at_not, bit_at_or, bit_at_set_other, bit_at_set_same, ones_shl}
use Rattle.node_tables.specs.NodeBits.{has_bit}

-- a place is told by its word and its bit in the word
pub same_place : (p q : ℕ) → p / 64 ≡ q / 64 → p % 64 ≡ q % 64 → p ≡ q
same_place p q word bit = omega (arith)

-- the bit in the word that is written
pub has_bit-write : (words : List ℕ) (word value p : ℕ) → word < length words → p / 64 ≡ word
    → has_bit (set words word value) p ≡ (bit_at value (p % 64) == 1)
unfolding has_bit
has_bit-write words word value p within here =
    ap (λ w. bit_at w (p % 64) == 1) (ap (λ k. get_or (set words word value) k 0) here
    ∙ get_or-set_same words word value 0 within)

-- and in another word
pub has_bit-write_other : (words : List ℕ) (word value p : ℕ) → p / 64 ≢ word
    → has_bit (set words word value) p ≡ has_bit words p
unfolding has_bit
has_bit-write_other words word value p apart =
    ap (λ w. bit_at w (p % 64) == 1) (get_or-set_other words word (p / 64) value 0 apart)

-- a write that changes a bit leaves the others
pub has_bit-changed : (words : List ℕ) (place value p : ℕ) → place / 64 < length words → p ≢ place
    → ((i : ℕ) → i < 64 → i ≢ place % 64
    → bit_at value i ≡ bit_at (get_or words (place / 64) 0) i)
    → has_bit (set words (place / 64) value) p ≡ has_bit words p
unfolding has_bit
has_bit-changed words place value p within apart kept =
    elim (cases_eq (p / 64) (place / 64)) [
      | inl here ↦
          let bit : p % 64 ≢ place % 64 = λ same. apart (same_place p place here same) in
          has_bit-write words (place / 64) value p within here
          ∙ ap (λ b. b == 1) (kept (p % 64) (omega arith) bit
          ∙ ap (λ w. bit_at (get_or words w 0) (p % 64)) (sym here))
      | inr other ↦ has_bit-write_other words (place / 64) value p other
    ]

-- to set a bit
pub has_bit-set : (words : List ℕ) (place : ℕ) → place / 64 < length words
    → has_bit (set words (place / 64) (bit_or (get_or words (place / 64) 0)
    (1 * 2 ^ (place % 64) % 2 ^ 64))) place ≡ true
has_bit-set words place within =
    has_bit-write words (place / 64) _ place within refl
    ∙ ap (λ b. b == 1)
    (bit_at_set_same w64 (get_or words (place / 64) 0) (place % 64) (omega arith))

-- and keep the others
pub has_bit-set_other : (words : List ℕ) (place p : ℕ) → place / 64 < length words → p ≢ place
    → has_bit (set words (place / 64) (bit_or (get_or words (place / 64) 0)
    (1 * 2 ^ (place % 64) % 2 ^ 64))) p ≡ has_bit words p
has_bit-set_other words place p within apart =
    has_bit-changed words place _ p within apart (λ i i_in other.
    bit_at_set_other w64 (get_or words (place / 64) 0) (place % 64) (omega arith) i other)

-- to clear a bit
pub has_bit-clear : (words : List ℕ) (place : ℕ) → place / 64 < length words
    → has_bit (set words (place / 64) (bit_and (get_or words (place / 64) 0)
    (bit_not w64 (1 * 2 ^ (place % 64) % 2 ^ 64)))) place ≡ false
has_bit-clear words place within =
    has_bit-write words (place / 64) _ place within refl
    ∙ ap (λ b. b == 1)
    (bit_at_clear_same w64 (get_or words (place / 64) 0) (place % 64) (omega arith))

-- and keep the others
pub has_bit-clear_other : (words : List ℕ) (place p : ℕ) → place / 64 < length words → p ≢ place
    → has_bit (set words (place / 64) (bit_and (get_or words (place / 64) 0)
    (bit_not w64 (1 * 2 ^ (place % 64) % 2 ^ 64)))) p ≡ has_bit words p
has_bit-clear_other words place p within apart =
    has_bit-changed words place _ p within apart (λ i i_in other.
    bit_at_clear_other w64 (get_or words (place / 64) 0) (place % 64) (omega arith) i i_in other)

-- words that are written over as many others
pub written : (words before : List ℕ) (n : ℕ) → length words ≡ n
    → take n (words ++ drop (length words) before) ≡ words
written words before n long =
    ap (λ k. take k (words ++ drop (length words) before)) (sym long)
    ∙ take-append_seam words (drop (length words) before)

-- ---- all words, one after another

-- a digit is 0 or 1
pub two_cases : (P : ℕ → Type 0) (n : ℕ) → n < 2 → P 0 → P 1 → P n
two_cases P n low none one =
    elim (cases_eq n 0) [
      | inl zero_is ↦ subst P (sym zero_is) none
      | inr other ↦ (let one_is : 1 ≡ n = omega arith in subst P one_is one)
    ]

-- the greater of two digits is 1 where either is
-- the greater of two digits is 1 where one is
or_digits : (a b : ℕ) → a < 2 → b < 2 → (max a b == 1) ≡ ((a == 1) || (b == 1))
or_digits a b a_low b_low =
    two_cases (λ a. (max a b == 1) ≡ ((a == 1) || (b == 1))) a a_low
    (two_cases (λ b. (max 0 b == 1) ≡ ((0 == 1) || (b == 1))) b b_low refl refl)
    (two_cases (λ b. (max 1 b == 1) ≡ ((1 == 1) || (b == 1))) b b_low refl refl)

-- the lesser is where both are
-- the lesser is 1 where both are
and_digits : (a b : ℕ) → a < 2 → b < 2 → (min a b == 1) ≡ ((a == 1) && (b == 1))
and_digits a b a_low b_low =
    two_cases (λ a. (min a b == 1) ≡ ((a == 1) && (b == 1))) a a_low
    (two_cases (λ b. (min 0 b == 1) ≡ ((0 == 1) && (b == 1))) b b_low refl refl)
    (two_cases (λ b. (min 1 b == 1) ≡ ((1 == 1) && (b == 1))) b b_low refl refl)

-- what is left of 1 is, where the digit isn't
-- the other digit is 1 where one isn't
not_digit : (a : ℕ) → a < 2 → (1 - a == 1) ≡ not (a == 1)
not_digit a low = two_cases (λ a. (1 - a == 1) ≡ not (a == 1)) a low refl refl

-- the digits of two words together
pub or_words : (a b i : ℕ) → (bit_at (bit_or a b) i == 1) ≡ ((bit_at a i == 1) || (bit_at b i == 1))
or_words a b i =
    ap (λ d. d == 1) (bit_at_or a b i)
    ∙ or_digits (bit_at a i) (bit_at b i) (bit_at-lt a i) (bit_at-lt b i)

-- and those that both have
pub and_words : (a b i : ℕ)
    → (bit_at (bit_and a b) i == 1) ≡ ((bit_at a i == 1) && (bit_at b i == 1))
and_words a b i =
    ap (λ d. d == 1) (bit_at_and a b i)
    ∙ and_digits (bit_at a i) (bit_at b i) (bit_at-lt a i) (bit_at-lt b i)

-- and those of the first alone
pub clear_words : (a b i : ℕ) → b < 2 ^ 64 → i < 64
    → (bit_at (bit_and a (bit_not w64 b)) i == 1) ≡ ((bit_at a i == 1) && not (bit_at b i == 1))
clear_words a b i b_in i_in =
    and_words a (bit_not w64 b) i
    ∙ ap (λ d. (bit_at a i == 1) && d)
    (ap (λ d. d == 1) (bit_at_not w64 b i b_in i_in) ∙ not_digit (bit_at b i) (bit_at-lt b i))

-- past the last word no bit is set
pub has_bit-past : (words : List ℕ) (p : ℕ) → length words ≤ p / 64 → has_bit words p ≡ false
unfolding has_bit
has_bit-past words p past =
    ap (λ w. bit_at w (p % 64) == 1) (get_or_past words (p / 64) 0 past)
    ∙ ap (λ d. d == 1) (bit_at-zero (p % 64))

-- the bits of the words up to a place are what is made of the old ones and of the others' bits, and from there on
-- they are the old ones
pub record Changed (both : Bool → Bool → Bool) (old words others : List ℕ) (i : ℕ) : Type 0 where
  pub done : (p : ℕ) → p / 64 < i → has_bit words p ≡ both (has_bit old p) (has_bit others p)
  pub left : (p : ℕ) → i ≤ p / 64 → has_bit words p ≡ has_bit old p

-- one more word is changed
pub Changed-more : (both : Bool → Bool → Bool) (old words others : List ℕ) (i value : ℕ)
    → i < length words
    → ((k : ℕ) → k < 64 → (bit_at value k == 1)
    ≡ both (bit_at (get_or words i 0) k == 1) (bit_at (get_or others i 0) k == 1))
    → Changed both old words others i → Changed both old (set words i value) others (i + 1)
unfolding has_bit
Changed-more both old words others i value within rule so_far = record {
  done = λ p p_in.
      elim (cases_eq (p / 64) i) [
        | inl here ↦
            has_bit-write words i value p within here
            ∙ rule (p % 64) (omega arith)
            ∙ ap (λ w. both (bit_at (get_or words w 0) (p % 64) == 1)
            (bit_at (get_or others w 0) (p % 64) == 1)) (sym here)
            ∙ ap (λ b. both b (has_bit others p)) (so_far.left p (omega arith))
        | inr other ↦
            has_bit-write_other words i value p other ∙ so_far.done p (omega arith)
      ];
  left = λ p p_in.
      has_bit-write_other words i value p (λ same. omega arith) ∙ so_far.left p (omega arith);
}

-- all words are
pub Changed-all : (both : Bool → Bool → Bool) (old words others : List ℕ) (i : ℕ)
    → length old ≤ i → length others ≤ i → both false false ≡ false
    → Changed both old words others i
    → (p : ℕ) → has_bit words p ≡ both (has_bit old p) (has_bit others p)
Changed-all both old words others i long others_long none all p =
    elim (cases_lt (p / 64) i) [
      | inl before ↦ all.done p before
      | inr past ↦
          let old_is = has_bit-past old p (omega arith) in
          let other_is = has_bit-past others p (omega arith) in
          all.left p past ∙ old_is ∙ sym none
          ∙ (λ t. both (sym old_is t) (sym other_is t))
    ]

-- in words of zeros no bit is set
pub has_bit-zeros : (words : List ℕ) (n : ℕ) → words ≡ replicate n 0 → (p : ℕ)
    → has_bit words p ≡ false
unfolding has_bit
has_bit-zeros words n zeros p =
    elim (cases_lt (p / 64) n) [
      | inl within ↦
          ap (λ ws. bit_at (get_or ws (p / 64) 0) (p % 64) == 1) zeros
          ∙ ap (λ w. bit_at w (p % 64) == 1) (get_or-replicate n (p / 64) 0 0 within)
          ∙ ap (λ d. d == 1) (bit_at-zero (p % 64))
      | inr past ↦
          has_bit-past words p (omega (arith, ap length zeros, length-replicate {A = ℕ} n 0))
    ]

-- ---- the first bit from a place on

-- a bit is set at a place, and none from another place up to it
pub record IsNext (words : List ℕ) (from found : ℕ) : Type 0 where
  pub after : from ≤ found
  pub here : has_bit words found ≡ true
  pub none : (p : ℕ) → from ≤ p → p < found → has_bit words p ≡ false

-- no bit is set from a place up to the first place of a word
abbrev pub NoneBefore : List ℕ → ℕ → ℕ → Type 0
NoneBefore words from word = (p : ℕ) → from ≤ p → p / 64 < word → has_bit words p ≡ false

-- a place of a word by its bit
pub has_bit-place : (words : List ℕ) (word k : ℕ) → k < 64
    → has_bit words (word * 64 + k) ≡ (bit_at (get_or words word 0) k == 1)
unfolding has_bit
has_bit-place words word k k_in t =
    bit_at (get_or words (div-mul-add word 64 k k_in t) 0) (mod-mul-add word 64 k k_in t) == 1

-- a word that isn't 0 has its first bit where its zeros end
pub IsNext-in_word : (words : List ℕ) (from word : ℕ) → 0 < get_or words word 0
    → get_or words word 0 < 2 ^ 64 → from ≤ word * 64 → NoneBefore words from word
    → IsNext words from (word * 64 + trailing_zeros w64 (get_or words word 0))
unfolding has_bit
IsNext-in_word words from word some range low none =
    let value = get_or words word 0 in
    let found = bit_at-trailing_zeros w64 value some range in
    let zeros = trailing_zeros w64 value in
    record {
      after = omega arith;
      here = has_bit-place words word zeros found.0 ∙ ap (λ d. d == 1) found.1;
      none = λ p p_from p_in.
          elim (cases_lt (p / 64) word) [
            | inl before ↦ none p p_from before
            | inr past ↦
                let same : p / 64 ≡ word = omega arith in
                let below : p % 64 < zeros = omega arith in
                ap (λ w. bit_at (get_or words w 0) (p % 64) == 1) same
                ∙ ap (λ d. d == 1) (found.2 (p % 64) below)
          ];
    }

-- a word without the bits below one
abbrev pub from_bit : ℕ → ℕ → ℕ
from_bit value k = bit_and value ((2 ^ 64 - 1) * 2 ^ k % 2 ^ 64)

-- it keeps the bits from that one on
-- its digits from there on are the word's
from_bit-above : (value k i : ℕ) → k < 64 → k ≤ i → i < 64
    → bit_at (from_bit value k) i ≡ bit_at value i
from_bit-above value k i k_in above i_in =
    bit_at_and value ((2 ^ 64 - 1) * 2 ^ k % 2 ^ 64) i
    ∙ ap (λ m. min (bit_at value i) (bit_at m i)) (ones_shl 64 k (omega arith))
    ∙ ap (λ d. min (bit_at value i) d) (bit_at_mask_inside k 64 i above i_in)
    ∙ omega (arith, bit_at-lt value i)

-- and has none below
-- those below are 0
from_bit-below : (value k i : ℕ) → k < 64 → i < k → bit_at (from_bit value k) i ≡ 0
from_bit-below value k i k_in below =
    bit_at_and value ((2 ^ 64 - 1) * 2 ^ k % 2 ^ 64) i
    ∙ ap (λ m. min (bit_at value i) (bit_at m i)) (ones_shl 64 k (omega arith))
    ∙ ap (λ d. min (bit_at value i) d) (bit_at_mask_below k 64 i below)
    ∙ omega arith

-- it fits a word
-- it has no more digits than the word
from_bit-range : (value k : ℕ) → value < 2 ^ 64 → from_bit value k < 2 ^ 64
from_bit-range value k range =
    omega (arith, and_le_l value ((2 ^ 64 - 1) * 2 ^ k % 2 ^ 64))

-- the first word, from the bit of the place on
pub IsNext-first : (words : List ℕ) (from : ℕ) → get_or words (from / 64) 0 < 2 ^ 64
    → 0 < from_bit (get_or words (from / 64) 0) (from % 64)
    → IsNext words from (from / 64 * 64
    + trailing_zeros w64 (from_bit (get_or words (from / 64) 0) (from % 64)))
unfolding has_bit
IsNext-first words from range some =
    let word = from / 64 in
    let k = from % 64 in
    let value = get_or words word 0 in
    let k_in : k < 64 = omega arith in
    let found = bit_at-trailing_zeros w64 (from_bit value k) some (from_bit-range value k range) in
    let zeros = trailing_zeros w64 (from_bit value k) in
    let reached : k ≤ zeros =
    elim (cases_lt zeros k) [
      | inl below ↦ (let zero_is = from_bit-below value k zeros k_in below in
          absurd (omega (arith, zero_is, found.1)))
      | inr above ↦ above
    ] in
    record {
      after = omega arith;
      here = has_bit-place words word zeros found.0
          ∙ ap (λ d. d == 1) (sym (from_bit-above value k zeros k_in reached found.0) ∙ found.1);
      none = λ p p_from p_in.
          let same : p / 64 ≡ word = omega arith in
          let above : k ≤ p % 64 = omega arith in
          let below : p % 64 < zeros = omega arith in
          ap (λ w. bit_at (get_or words w 0) (p % 64) == 1) same
          ∙ ap (λ d. d == 1) (sym (from_bit-above value k (p % 64) k_in above (omega arith))
          ∙ found.2 (p % 64) below);
    }

-- a first word with no bit from the place on
pub NoneBefore-first : (words : List ℕ) (from : ℕ)
    → from_bit (get_or words (from / 64) 0) (from % 64) ≡ 0
    → NoneBefore words from (from / 64 + 1)
unfolding has_bit
NoneBefore-first words from empty p p_from p_in =
    let same : p / 64 ≡ from / 64 = omega arith in
    let value = get_or words (from / 64) 0 in
    ap (λ w. bit_at (get_or words w 0) (p % 64) == 1) same
    ∙ ap (λ d. d == 1) (sym (from_bit-above value (from % 64) (p % 64) (omega arith) (omega arith)
    (omega arith)) ∙ ap (λ w. bit_at w (p % 64)) empty ∙ bit_at-zero (p % 64))

-- and a later word that is 0
pub NoneBefore-more : (words : List ℕ) (from word : ℕ) → get_or words word 0 ≡ 0
    → NoneBefore words from word → NoneBefore words from (word + 1)
unfolding has_bit
NoneBefore-more words from word empty none p p_from p_in =
    elim (cases_lt (p / 64) word) [
      | inl before ↦ none p p_from before
      | inr past ↦
          let same : p / 64 ≡ word = omega arith in
          ap (λ w. bit_at (get_or words w 0) (p % 64) == 1) same
          ∙ ap (λ w. bit_at w (p % 64) == 1) empty
          ∙ ap (λ d. d == 1) (bit_at-zero (p % 64))
    ]

-- past the last word there is none
pub NoneBefore-all : (words : List ℕ) (from word : ℕ) → length words ≤ word
    → NoneBefore words from word → (p : ℕ) → from ≤ p → has_bit words p ≡ false
NoneBefore-all words from word long none p p_from =
    elim (cases_lt (p / 64) word) [
      | inl before ↦ none p p_from before
      | inr past ↦ has_bit-past words p (omega arith)
    ]
