-- Sums of numbers, and how they are put in another order: for all files of this crate.
--
-- First sums term by term, by rows, pairs and fours, and in either order of two indices (`total-swap`); then sums under
-- a test (`when`). The last part is what cancels: n things in a row of which each has a high and a low end say the same
-- as the ends between two of them (`total-ends`), and where each high end is the next low end only the two outermost
-- stay (`total-chain`).
use Rattle.std.proofs.Common.{◌≡◌, ℕ, zero, suc, ◌+◌, ◌*◌, ◌<◌, Bool, true, false, refl, ap, sym, ◌∙◌, arith, add-suc, add-zero}
use Rattle.std.specs.Prelude.{ℤ, pos, ◌+ℤ◌, ◌-ℤ◌, neg_ℤ, nat_lt}
use Rattle.std.proofs.lemmas.Int.{ints}
use Rattle.std.proofs.lemmas.Bool.{lt-ltb, le-ltb}
use Rattle.seam_laws.specs.Flows.{total, when}

-- sums of the same numbers
pub total-same : (n : ℕ) (f g : ℕ → ℤ) → ((i : ℕ) → i < n → f i ≡ g i) → total n f ≡ total n g
unfolding total
total-same zero f g same = refl
total-same (suc n) f g same = omega (
  arith,
  ints,
  total-same n f g (λ i i_in. same i (omega arith)),
  same n (omega arith),
)

-- a sum of sums
pub total-sum : (n : ℕ) (f g : ℕ → ℤ) → total n (λ i. f i +ℤ g i) ≡ total n f +ℤ total n g
unfolding total
total-sum zero f g = refl
total-sum (suc n) f g = omega (arith, ints, total-sum n f g)

-- a sum of differences
pub total-difference : (n : ℕ) (f g : ℕ → ℤ) → total n (λ i. f i -ℤ g i) ≡ total n f -ℤ total n g
unfolding total
total-difference zero f g = refl
total-difference (suc n) f g = omega (arith, ints, total-difference n f g)

-- a sum of negatives
pub total-negative : (n : ℕ) (f : ℕ → ℤ) → total n (λ i. neg_ℤ (f i)) ≡ neg_ℤ (total n f)
unfolding total
total-negative zero f = refl
total-negative (suc n) f = omega (arith, ints, total-negative n f)

-- a sum of zeros
pub total-zero : (n : ℕ) (f : ℕ → ℤ) → ((i : ℕ) → i < n → f i ≡ pos 0) → total n f ≡ pos 0
unfolding total
total-zero zero f none = refl
total-zero (suc n) f none = omega (
  arith,
  ints,
  total-zero n f (λ i i_in. none i (omega arith)),
  none n (omega arith),
)

-- the first number apart
pub total-first : (n : ℕ) (f : ℕ → ℤ) → total (suc n) f ≡ f 0 +ℤ total n (λ i. f (suc i))
unfolding total
total-first zero f = omega (arith, ints)
total-first (suc n) f = omega (arith, ints, total-first n f)

-- two rows one after another
pub total-rows : (n m : ℕ) (f : ℕ → ℤ) → total (n + m) f ≡ total n f +ℤ total m (λ i. f (n + i))
unfolding total
total-rows n zero f = rw add-zero (omega (arith, ints))
total-rows n (suc m) f = rw add-suc (omega (arith, ints, total-rows n m f))

-- pairs
pub total-pairs : (n : ℕ) (f : ℕ → ℤ) → total (2 * n) f ≡ total n (λ i. f (2 * i) +ℤ f (2 * i + 1))
unfolding total
total-pairs zero f = refl
total-pairs (suc n) f =
    let twice : 2 * suc n ≡ suc (suc (2 * n)) = omega arith in
    let node_after : suc (2 * n) ≡ 2 * n + 1 = omega arith in
    rw (twice, node_after) (omega (arith, ints, total-pairs n f))

-- a sum of four numbers
pub total-four : (f : ℕ → ℤ) → total 4 f ≡ (f 0 +ℤ f 1) +ℤ (f 2 +ℤ f 3)
unfolding total
total-four f = omega (arith, ints)

-- sums of sums, in either order
pub total-swap : (n m : ℕ) (f : ℕ → ℕ → ℤ) → total n (λ i. total m (λ j. f i j))
    ≡ total m (λ j. total n (λ i. f i j))
unfolding total
total-swap zero m f = sym (total-zero m (λ j. pos 0) (λ j j_in. refl))
total-swap (suc n) m f = ap (λ x. x +ℤ total m (f n)) (total-swap n m f)
    ∙ sym (total-sum m (λ j. total n (λ i. f i j)) (f n))

-- ---- numbers under a test

-- a number where its test passes
when-true : (b : Bool) (x : ℤ) → b ≡ true → when b x ≡ x
when-true b x e = rw e refl

-- a number where its test fails
when-false : (b : Bool) (x : ℤ) → b ≡ false → when b x ≡ pos 0
when-false b x e = rw e refl

-- a sum under one test
pub total-when : (n : ℕ) (b : Bool) (f : ℕ → ℤ) → total n (λ i. when b (f i)) ≡ when b (total n f)
total-when n true f = refl
total-when n false f = total-zero n (λ i. pos 0) (λ i i_in. refl)

-- ---- rows and their ends

-- all but the last
total-but_last : (n : ℕ) (f : ℕ → ℤ) → total (suc n) (λ i. when (nat_lt (i + 1) (suc n)) (f i))
    ≡ total n f
unfolding total
total-but_last n f =
    let before : total n (λ i. when (nat_lt (i + 1) (suc n)) (f i)) ≡ total n f =
    total-same n (λ i. when (nat_lt (i + 1) (suc n)) (f i)) f
    (λ i i_in. when-true (nat_lt (i + 1) (suc n)) (f i) (lt-ltb (i + 1) (suc n) (omega arith)))
    in
    let last = when-false (nat_lt (n + 1) (suc n)) (f n) (le-ltb (n + 1) (suc n) (omega arith)) in
    omega (arith, ints, before, last)

-- all but the first
total-but_first : (n : ℕ) (f : ℕ → ℤ) → total (suc n) (λ i. when (nat_lt 0 i) (f i))
    ≡ total n (λ i. f (suc i))
total-but_first n f =
    total-first n (λ i. when (nat_lt 0 i) (f i))
    ∙ omega (
      arith,
      ints,
      total-same n (λ i. when (nat_lt 0 (suc i)) (f (suc i))) (λ i. f (suc i))
          (λ i i_in. when-true (nat_lt 0 (suc i)) (f (suc i)) (lt-ltb 0 (suc i) (omega arith))),
    )

-- what n things in a row say of their high and low ends is what is said of the ends between two of them, but for the
-- first end and the last
total-ends : (n : ℕ) (high low : ℕ → ℤ)
    → total (suc n) (λ i. when (nat_lt (i + 1) (suc n)) (high i) -ℤ when (nat_lt 0 i) (low i))
    ≡ total n (λ i. high i -ℤ low (suc i))
total-ends n high low =
    total-difference (suc n) (λ i. when (nat_lt (i + 1) (suc n)) (high i))
    (λ i. when (nat_lt 0 i) (low i))
    ∙ omega (
      arith,
      ints,
      total-but_last n high,
      total-but_first n low,
      total-difference n high (λ i. low (suc i)),
    )

-- the same for n things where n is written otherwise
pub total-ends_at : (n k : ℕ) (high low : ℕ → ℤ) → n ≡ suc k
    → total n (λ i. when (nat_lt (i + 1) n) (high i) -ℤ when (nat_lt 0 i) (low i))
    ≡ total k (λ i. high i -ℤ low (suc i))
total-ends_at n k high low e = rw e (total-ends k high low)

-- a row in which each thing's high end is the next one's low end
pub total-chain : (n : ℕ) (f : ℕ → ℤ) → total n (λ i. f (suc i) -ℤ f i) ≡ f n -ℤ f 0
unfolding total
total-chain zero f = omega (arith, ints)
total-chain (suc n) f = omega (arith, ints, total-chain n f)

-- ---- sums by the three axes

-- a difference of two sums of three is the sum of the three differences
pub six-parts : (a b c d e f : ℤ) → (a +ℤ (b +ℤ c)) -ℤ (d +ℤ (e +ℤ f))
    ≡ (a -ℤ d) +ℤ ((b -ℤ e) +ℤ (c -ℤ f))
six-parts a b c d e f = omega (arith, ints)

-- numbers whose difference is 0 are the same
pub from-zero : (x y : ℤ) → x -ℤ y ≡ pos 0 → x ≡ y
from-zero x y e = omega (arith, ints)
