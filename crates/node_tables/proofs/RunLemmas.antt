-- What is done by runs of 64 words, where a mark word that is 0 says that a run's words are 0; for the functions of
-- `runs`.
-- The bits of words so far are made of two lists' bits (`Changed`). A run that is passed over has no bit set in one of
-- the lists, so that what is made of both is what was there (`Changed-skip`, with `has_bit-unmarked`), and where a run
-- is gone through, the words end with it or before it (`Changed-end`). To copy goes word by word in the same way
-- (`Copied`). The first bit from a place on is in the first marked word that isn't 0 (`NoneBefore-marked`).
use Rattle.std.proofs.Common.{◌≡◌, ℕ, ◌+◌, ◌*◌, ◌/◌, ◌%◌, ◌^◌, ◌<◌, ◌≤◌, min, Bool, false, List, length, get_or, refl, sym, ap, ◌∙◌, inl, inr, arith, set, lit<}
use Rattle.std.specs.Prelude.{◌==◌, ◌&&◌, ◌||◌, not}
use Rattle.std.specs.Int.{bit_at}
use Rattle.std.proofs.lemmas.Bool.{cases_Bool, cases_eq, cases_lt}
use Rattle.std.proofs.lemmas.Grind.{same_number_lists}
use Rattle.std.proofs.lemmas.List.{get_or-set_same, get_or-set_other, get_or_past}
use Rattle.std.proofs.lemmas.Nat.Bits.{bit_at-lt, bit_at-zero, same_from_bits_below}
use Rattle.node_tables.specs.Marks.{IsMarked}
use Rattle.node_tables.specs.NodeBits.{has_bit}
use Rattle.node_tables.proofs.WordLemmas.{Changed, NoneBefore, has_bit-past, has_bit-place, two_cases}

-- ---- what marks say

-- a word that is 0 has no bit set
pub has_bit-zero : (words : List ℕ) (p : ℕ) → get_or words (p / 64) 0 ≡ 0 → has_bit words p ≡ false
unfolding has_bit
has_bit-zero words p empty =
    ap (λ w. bit_at w (p % 64) == 1) empty ∙ ap (λ d. d == 1) (bit_at-zero (p % 64))

-- where a word of marks is 0, the words of its run have no bit set
pub has_bit-unmarked : (words marks : List ℕ) (run p : ℕ) → IsMarked words marks
    → get_or marks run 0 ≡ 0 → run * 64 ≤ p / 64 → p / 64 < run * 64 + 64
    → has_bit words p ≡ false
has_bit-unmarked words marks run p marked empty from to =
    let here : p / 64 / 64 ≡ run = omega arith in
    marked.unmarked p (has_bit-zero marks (p / 64) (ap (λ r. get_or marks r 0) here ∙ empty))

-- a digit that isn't 1 is 0
digit_off : (d : ℕ) → d < 2 → (d == 1) ≡ false → d ≡ 0
digit_off d low = two_cases (λ d. (d == 1) ≡ false → d ≡ 0) d low (λ off. refl) (λ off. absurd (cc))

-- so they are 0
pub word-unmarked : (words marks : List ℕ) (run word : ℕ) → IsMarked words marks
    → get_or words word 0 < 2 ^ 64
    → get_or marks run 0 ≡ 0 → run * 64 ≤ word → word < run * 64 + 64 → get_or words word 0 ≡ 0
word-unmarked words marks run word marked range empty from to =
    let value = get_or words word 0 in
    same_from_bits_below 64 value 0 range (lit< tt) (λ i i_in.
    digit_off (bit_at value i) (bit_at-lt value i) (sym (has_bit-place words word i i_in)
    ∙ has_bit-unmarked words marks run (word * 64 + i) marked empty (omega arith) (omega arith))
    ∙ sym (bit_at-zero i))

-- ---- bits of two lists together

-- a run is passed over, where what is made of both is what was there
pub Changed-skip : (both : Bool → Bool → Bool) (old words others : List ℕ) (i j : ℕ) → i ≤ j
    → ((p : ℕ) → i ≤ p / 64 → p / 64 < j → both (has_bit old p) (has_bit others p) ≡ has_bit old p)
    → Changed both old words others i → Changed both old words others j
Changed-skip both old words others i j later same so_far = record {
  done = λ p p_in.
      elim (cases_lt (p / 64) i) [
        | inl before ↦ so_far.done p before
        | inr past ↦ so_far.left p past ∙ sym (same p past p_in)
      ];
  left = λ p p_in. so_far.left p (omega arith);
}

-- a run ends, or the words end in it
pub Changed-end : (both : Bool → Bool → Bool) (old words others : List ℕ) (i j : ℕ) → i ≤ j
    → min (length old) j ≤ i → length others ≡ length old → both false false ≡ false
    → Changed both old words others i → Changed both old words others j
Changed-end both old words others i j later end long none so_far =
    Changed-skip both old words others i j later (λ p from to.
    let old_is = has_bit-past old p (omega arith) in
    let other_is = has_bit-past others p (omega arith) in
    (λ t. both (old_is t) (other_is t)) ∙ none ∙ sym old_is) so_far

-- an other bit that isn't set changes none that is to be set
pub or_off : (a b : Bool) → b ≡ false → (a || b) ≡ a
or_off a b off =
    elim (cases_Bool a) [
      | inl set ↦ ap (λ x. x || b) set ∙ sym set
      | inr unset ↦ ap (λ x. x || b) unset ∙ off ∙ sym unset
    ]

-- nor one that is to be cleared
pub and_not_off : (a b : Bool) → b ≡ false → (a && not b) ≡ a
and_not_off a b off =
    elim (cases_Bool a) [
      | inl set ↦ ap (λ x. x && not b) set ∙ ap not off ∙ sym set
      | inr unset ↦ ap (λ x. x && not b) unset ∙ sym unset
    ]

-- a bit that isn't set isn't kept
pub and_off : (a b : Bool) → a ≡ false → (a && b) ≡ a
and_off a b off = ap (λ x. x && b) off ∙ sym off

-- ---- words copied

-- the words up to a place are the others', and from there on they are the old ones
pub record Copied (old words others : List ℕ) (i : ℕ) : Type 0 where
  pub done : (k : ℕ) → k < i → get_or words k 0 ≡ get_or others k 0
  pub left : (k : ℕ) → i ≤ k → get_or words k 0 ≡ get_or old k 0

-- one more word is copied
pub Copied-more : (old words others : List ℕ) (i : ℕ) → i < length words
    → Copied old words others i → Copied old (set words i (get_or others i 0)) others (i + 1)
Copied-more old words others i within so_far = record {
  done = λ k k_in.
      elim (cases_eq k i) [
        | inl here ↦
            ap (λ n. get_or (set words i (get_or others i 0)) n 0) here
            ∙ get_or-set_same words i (get_or others i 0) 0 within
            ∙ ap (λ n. get_or others n 0) (sym here)
        | inr other ↦
            get_or-set_other words i k (get_or others i 0) 0 other ∙ so_far.done k (omega arith)
      ];
  left = λ k k_in.
      get_or-set_other words i k (get_or others i 0) 0 (λ same. omega arith)
      ∙ so_far.left k (omega arith);
}

-- a run is passed over, where the words are the same
pub Copied-skip : (old words others : List ℕ) (i j : ℕ) → i ≤ j
    → ((k : ℕ) → i ≤ k → k < j → get_or others k 0 ≡ get_or old k 0)
    → Copied old words others i → Copied old words others j
Copied-skip old words others i j later same so_far = record {
  done = λ k k_in.
      elim (cases_lt k i) [
        | inl before ↦ so_far.done k before
        | inr past ↦ so_far.left k past ∙ sym (same k past k_in)
      ];
  left = λ k k_in. so_far.left k (omega arith);
}

-- a run ends, or the words end in it
pub Copied-end : (old words others : List ℕ) (i j : ℕ) → i ≤ j
    → min (length old) j ≤ i → length others ≡ length old
    → Copied old words others i → Copied old words others j
Copied-end old words others i j later end long so_far =
    Copied-skip old words others i j later (λ k from to.
    get_or_past others k 0 (omega arith) ∙ sym (get_or_past old k 0 (omega arith))) so_far

-- all words are
pub Copied-all : (old words others : List ℕ) (i : ℕ) → length words ≤ i
    → length words ≡ length others → Copied old words others i → words ≡ others
Copied-all old words others i long same all =
    same_number_lists words others same (λ k k_in. all.done k (omega arith))

-- ---- the first bit from a place on

-- words without marks are passed over
pub NoneBefore-marked : (words marks : List ℕ) (from word next : ℕ) → IsMarked words marks
    → ((k : ℕ) → word ≤ k → k < next → has_bit marks k ≡ false)
    → NoneBefore words from word → NoneBefore words from next
NoneBefore-marked words marks from word next marked unmarked none p p_from p_in =
    elim (cases_lt (p / 64) word) [
      | inl before ↦ none p p_from before
      | inr past ↦
          marked.unmarked p (unmarked (p / 64) past p_in)
    ]

-- where no later word has a mark, there is none
pub NoneBefore-unmarked : (words marks : List ℕ) (from word : ℕ) → IsMarked words marks
    → ((k : ℕ) → word ≤ k → has_bit marks k ≡ false)
    → NoneBefore words from word → (p : ℕ) → from ≤ p → has_bit words p ≡ false
NoneBefore-unmarked words marks from word marked unmarked none p p_from =
    NoneBefore-marked words marks from word (p / 64 + 1) marked (λ k k_from k_in.
    unmarked k k_from) none p p_from (omega arith)
