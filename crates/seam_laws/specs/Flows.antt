-- Flows: what directed edges weigh less what their reverses weigh, and sums of such numbers.
-- Source: this project's rule.
use Rattle.std.specs.Prelude.{ℕ, zero, suc, Bool, true, false, List, ℤ, pos, ◌+ℤ◌, ◌-ℤ◌, neg_ℤ}
use Rattle.terrain.specs.Curves.{weight, weight_back}

-- what directed edges weigh, less what their reverses weigh
unfoldable pub flow : {K : Type 0} → (K → K → ℕ) → List (K × K) → ℤ
flow w edges = pos (weight w edges) -ℤ pos (weight_back w edges)

-- f 0 + f 1 + .. + f (n - 1)
unfoldable pub total : ℕ → (ℕ → ℤ) → ℤ
total zero f = pos 0
total (suc n) f = total n f +ℤ f n

-- a number where a test passes, and 0 where it fails
abbrev pub when : Bool → ℤ → ℤ
when true x = x
when false x = pos 0

-- a number as it is, or its negative
abbrev pub turned : Bool → ℤ → ℤ
turned true x = x
turned false x = neg_ℤ x
