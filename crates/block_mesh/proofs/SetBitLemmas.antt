-- The first place whose bit is set, and numbers without the bit at a place.
--
-- For `first_set`, `without` and the loop of `add_row`: a number with a bit isn't 0 (`some-set`), its first bit isn't
-- beyond that one (`first-within`), and a bit that is set comes after places without one (`first-after`).
use Rattle.std.proofs.Common.{◌≡◌, ℕ, ◌^◌, ◌<◌, ◌≤◌, inl, inr, ap, arith, w64}
use Rattle.std.proofs.lemmas.Bool.{cases_lt}
use Rattle.std.proofs.lemmas.Nat.Bits.{bit_at-trailing_zeros, bit_at-zero}
use Rattle.std.specs.Int.{bit_at, trailing_zeros}

-- a number with a bit isn't 0
pub some-set : (n k : ℕ) → bit_at n k ≡ 1 → 0 < n
some-set n k set =
    elim (cases_lt n 1) [
      | inl none ↦
          let empty : n ≡ 0 = omega (arith, none) in
          absurd (omega (arith, set, ap (λ m. bit_at m k) empty, bit_at-zero k))
      | inr some ↦ some
    ]

-- the first bit isn't beyond one that is set
pub first-within : (n k : ℕ) → n < 2 ^ 64 → bit_at n k ≡ 1 → trailing_zeros w64 n ≤ k
first-within n k fits set =
    elim (cases_lt k (trailing_zeros w64 n)) [
      | inl before ↦
          absurd (omega (
            arith,
            set,
            (bit_at-trailing_zeros w64 n (some-set n k set) fits).2 k before,
          ))
      | inr within ↦ within
    ]

-- a bit that is set comes after places without one
pub first-after : (n from first : ℕ) → ((k : ℕ) → k < from → bit_at n k ≡ 0)
    → bit_at n first ≡ 1 → from ≤ first
first-after n from first none set =
    elim (cases_lt first from) [
      | inl before ↦ absurd (omega (arith, set, none first before))
      | inr after ↦ after
    ]
