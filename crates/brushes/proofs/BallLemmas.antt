-- A ball's values by the square of the distance from its centre: a short table tells all of them, for the clauses of
-- `BallValues::new` and of the loop that reads it.
-- Clamped, the value is the least wherever the root is far enough below the radius, and the greatest wherever it is far
-- enough above (clamped_inside, clamped_outside, from the two bounds of the root). So a list of the values between
-- needs only an entry before these and one behind (AreBallValues-between), and looking up any distance takes the
-- nearest entry (value_at-square).
use Rattle.std.proofs.Common.{◌≡◌, ℕ, ◌+◌, ◌-◌, ◌*◌, ◌/◌, ◌^◌, ◌<◌, ◌≤◌, min, List, ℤ, pos, neg_ℤ, ◌-ℤ◌, length, get_or, ap, sym, ◌∙◌, inl, inr, arith, w32, to_z, of_z}
use Rattle.std.proofs.lemmas.Bool.{cases_lt}
use Rattle.std.proofs.lemmas.Int.{ints, clamps}
use Rattle.std.proofs.lemmas.Nat.{mul-le}
use Rattle.terrain.specs.declared.brush.TheConstants.{MAX_SAMPLE, SUBCELLS}
use Rattle.terrain.specs.Brushes.{floor_root}
use Rattle.terrain.specs.Samples.{IsSample, clamped_sample}
use Rattle.brushes.specs.declared.ball.TheConstants.{MAX_ROOT, MAX_UNITS, MAX_VALUE}
use Rattle.brushes.specs.BallValues.{AreBallValues}
use Rattle.brushes.specs.Values.{value_at_square}

-- a number whose square is at most another's is at most that
pub root_most : (a b : ℕ) → a * a ≤ b * b → a ≤ b
root_most a b squares =
    elim (cases_lt b a) [
      | inl less ↦
          let next : b + 1 ≤ a = omega arith in
          absurd (omega (arith, mul-le (b + 1) (b + 1) a a next next))
      | inr most ↦ most
    ]

-- what a clamped number is
pub IsSample-clamped : (g : ℤ) → IsSample (clamped_sample g)
IsSample-clamped g =
    record { low = omega (arith, ints, clamps); high = omega (arith, ints, clamps) }

-- the difference as the code computes it
pub difference_is : (root units : ℕ) → root ≤ MAX_ROOT → units ≤ MAX_UNITS
    → to_z w32 (of_z w32 (to_z w32 root -ℤ to_z w32 units)) ≡ pos root -ℤ pos units
difference_is root units root_most units_most = omega (arith, ints)

-- a difference that is low enough is the least sample
clamped_low : (root units : ℕ) → root + MAX_VALUE ≤ units
    → clamped_sample (pos root -ℤ pos units) ≡ neg_ℤ MAX_SAMPLE
clamped_low root units low = omega (arith, ints, clamps)

-- one that is high enough is the greatest
clamped_high : (root units : ℕ) → units + MAX_VALUE ≤ root
    → clamped_sample (pos root -ℤ pos units) ≡ MAX_SAMPLE
clamped_high root units high = omega (arith, ints, clamps)

-- well inside the ball the value is the least
pub clamped_inside : (r square inner : ℕ)
    → ((n : ℕ) → floor_root n * floor_root n ≤ n)
    → inner + MAX_VALUE ≤ SUBCELLS * r → SUBCELLS * SUBCELLS * square ≤ inner * inner
    → clamped_sample (value_at_square r square) ≡ neg_ℤ MAX_SAMPLE
clamped_inside r square inner low inside near =
    let n : ℕ = SUBCELLS * SUBCELLS * square in
    let root_low = low n in
    let most = root_most (floor_root n) inner (omega (arith, root_low, near)) in
    clamped_low (floor_root n) (SUBCELLS * r) (omega (arith, most, inside))

-- well outside it is the greatest
pub clamped_outside : (r square outer : ℕ)
    → ((n : ℕ) → n < (floor_root n + 1) * (floor_root n + 1))
    → outer ≡ SUBCELLS * r + MAX_VALUE → outer * outer ≤ SUBCELLS * SUBCELLS * square
    → clamped_sample (value_at_square r square) ≡ MAX_SAMPLE
clamped_outside r square outer high outer_is far =
    let n : ℕ = SUBCELLS * SUBCELLS * square in
    let root_high = high n in
    elim (cases_lt (floor_root n) outer) [
      | inl less ↦
          let next : floor_root n + 1 ≤ outer = omega (arith, less) in
          let most = mul-le (floor_root n + 1) (floor_root n + 1) outer outer next next in
          absurd (omega (arith, most, root_high, far))
      | inr least ↦ clamped_high (floor_root n) (SUBCELLS * r) (omega (arith, least, outer_is))
    ]

-- turning the sign goes with clamping
pub clamped-neg : (g : ℤ) → neg_ℤ (clamped_sample g) ≡ clamped_sample (neg_ℤ g)
clamped-neg g = omega (arith, ints, clamps)

-- the values from the last one within the ball's reach to the first one off it
pub AreBallValues-between : (r first last inner outer : ℕ) (values : List ℤ)
    → ((n : ℕ) → floor_root n * floor_root n ≤ n)
    → ((n : ℕ) → n < (floor_root n + 1) * (floor_root n + 1))
    → inner ≡ SUBCELLS * r - MAX_VALUE → outer ≡ SUBCELLS * r + MAX_VALUE
    → first ≡ inner * inner / (SUBCELLS * SUBCELLS)
    → last ≡ outer * outer / (SUBCELLS * SUBCELLS) + 1
    → first + length values ≡ last + 1 → last + 1 < 2 ^ 32
    → ((k : ℕ) → k < length values →
    get_or values k MAX_SAMPLE ≡ clamped_sample (value_at_square r (first + k)))
    → AreBallValues r first values
AreBallValues-between r first last inner outer values low high inner_is outer_is first_is last_is
    long few each =
    let inner_most : inner ≤ outer = omega arith in
    let squares = mul-le inner inner outer outer inner_most inner_most in
    let some : first ≤ last = omega (arith, squares) in
    record {
      some = omega (arith, some, long);
      few = omega (arith, some, long, few);
      value = each;
      nearer = λ square near. elim (cases_lt MAX_VALUE (SUBCELLS * r)) [
        | inl inside ↦
            let inner_low : inner + MAX_VALUE ≤ SUBCELLS * r = omega (arith, inner_is, inside) in
            clamped_inside r square inner low inner_low (omega (arith, near, first_is))
            ∙ sym (clamped_inside r first inner low inner_low (omega (arith, first_is)))
        | inr small ↦
            let inner_zero : inner ≡ 0 = omega (arith, inner_is, small) in
            let nothing : 0 * inner ≡ 0 = omega arith in
            let zero_squared : inner * inner ≡ 0 = ap (λ n. n * inner) inner_zero ∙ nothing in
            let same : square ≡ first = omega (arith, near, first_is, zero_squared) in
            ap (λ n. clamped_sample (value_at_square r n)) same
      ];
      further = λ square far.
          clamped_outside r square outer high outer_is (omega (arith, far, long, last_is));
    }

-- what is looked up at a square distance
pub value_at-square : (r first square : ℕ) (values : List ℤ) → AreBallValues r first values
    → get_or values (min (square - first) (length values - 1)) MAX_SAMPLE
    ≡ clamped_sample (value_at_square r square)
value_at-square r first square values are =
    let some = are.some in
    elim (cases_lt first square) [
      | inr near ↦
          let place : min (square - first) (length values - 1) ≡ 0 = omega arith in
          let start : first + 0 ≡ first = omega arith in
          ap (λ k. get_or values k MAX_SAMPLE) place ∙ are.value 0 some
          ∙ ap (λ n. clamped_sample (value_at_square r n)) start ∙ sym (are.nearer square near)
      | inl after ↦ elim (cases_lt (square - first) (length values)) [
        | inl within ↦
            let place : min (square - first) (length values - 1) ≡ square - first = omega arith in
            let there : first + (square - first) ≡ square = omega arith in
            ap (λ k. get_or values k MAX_SAMPLE) place ∙ are.value (square - first) within
            ∙ ap (λ n. clamped_sample (value_at_square r n)) there
        | inr past ↦
            let place : min (square - first) (length values - 1) ≡ length values - 1 =
            omega arith in
            ap (λ k. get_or values k MAX_SAMPLE) place
            ∙ are.value (length values - 1) (omega (arith, some))
            ∙ are.further (first + (length values - 1)) (omega (arith, some))
            ∙ sym (are.further square (omega (arith, past, after, some)))
      ]
    ]
