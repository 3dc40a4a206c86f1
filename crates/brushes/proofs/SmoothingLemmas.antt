-- What the code computes of an eighth of a sum of samples is what the definition says: this serves the loop that
-- smooths a row.
-- The code adds numbers of 16 bits and passes samples as bytes. Twice a sample and three sums of two fit, so each cast
-- on the way gives its number back (those named cast, sum_is), and the eighth is a sample again (IsSample-eighth).
use Rattle.std.proofs.Common.{◌≡◌, ◌≤ℤ◌, ◌+ℤ◌, ◌*ℤ◌, ℤ, pos, neg_ℤ, ap, ◌∙◌, subst, sym, arith, FitsSigned, w8, w16, to_z, of_z}
use Rattle.std.proofs.lemmas.Int.{ints, to_z-of_z}
use Rattle.std.specs.Int.{int_div_euclid}
use Rattle.terrain.specs.declared.brush.TheConstants.{MAX_SAMPLE}
use Rattle.terrain.specs.Samples.{IsSample}
use Rattle.brushes.specs.Values.{IsPair}

-- the sum as the code computes it
abbrev pub code_sum : ℤ → ℤ → ℤ → ℤ → ℤ
code_sum s x y z =
    to_z w16 (of_z w16 (pos 2 *ℤ to_z w16 (of_z w16 s))) +ℤ to_z w16
    (of_z w16 (to_z w16 (of_z w16 x) +ℤ to_z w16
    (of_z w16 (to_z w16 (of_z w16 y) +ℤ to_z w16 (of_z w16 z)))))

-- the sum of two samples comes back from 16 bits
pair_cast : (x : ℤ) → IsPair x → to_z w16 (of_z w16 x) ≡ x
pair_cast x pair = omega (arith, ints)

-- so does twice a sample
sample_cast : (s : ℤ) → IsSample s → to_z w16 (of_z w16 (pos 2 *ℤ to_z w16 (of_z w16 s)))
    ≡ pos 2 *ℤ s
sample_cast s is_sample = omega (arith, ints)

-- so do two such sums
sum_cast : (y z : ℤ) → IsPair y → IsPair z → to_z w16 (of_z w16 (y +ℤ z)) ≡ y +ℤ z
sum_cast y z y_pair z_pair = omega (arith, ints)

-- and three of them
sums_cast : (x y z : ℤ) → IsPair x → IsPair y → IsPair z
    → to_z w16 (of_z w16 (x +ℤ (y +ℤ z))) ≡ x +ℤ (y +ℤ z)
sums_cast x y z x_pair y_pair z_pair = omega (arith, ints)

-- the sum that the code computes
pub sum_is : (s x y z : ℤ) → IsSample s → IsPair x → IsPair y → IsPair z
    → code_sum s x y z ≡ (pos 2 *ℤ s) +ℤ (x +ℤ (y +ℤ z))
sum_is s x y z is_sample x_pair y_pair z_pair =
    let inner : to_z w16 (of_z w16 y) +ℤ to_z w16 (of_z w16 z) ≡ y +ℤ z =
    λ i. pair_cast y y_pair i +ℤ pair_cast z z_pair i in
    let middle : to_z w16 (of_z w16 x) +ℤ to_z w16
    (of_z w16 (to_z w16 (of_z w16 y) +ℤ to_z w16 (of_z w16 z))) ≡ x +ℤ (y +ℤ z) =
    λ i. pair_cast x x_pair i +ℤ (ap (λ a. to_z w16 (of_z w16 a)) inner
    ∙ sum_cast y z y_pair z_pair) i
    in
    λ i. sample_cast s is_sample i +ℤ (ap (λ a. to_z w16 (of_z w16 a)) middle
    ∙ sums_cast x y z x_pair y_pair z_pair) i

-- the sum fits its type
pub sum_fits : (s x y z : ℤ) → IsSample s → IsPair x → IsPair y → IsPair z
    → FitsSigned w16 ((pos 2 *ℤ s) +ℤ (x +ℤ (y +ℤ z)))
sum_fits s x y z is_sample x_pair y_pair z_pair = omega (arith, ints)

-- an eighth of the sum is a sample
pub IsSample-eighth : (s x y z : ℤ)
    → ((n : ℤ) → neg_ℤ (pos 8 *ℤ MAX_SAMPLE) ≤ℤ n → n ≤ℤ (pos 8 *ℤ MAX_SAMPLE) →
    IsSample (int_div_euclid n (pos 8)))
    → IsSample s → IsPair x → IsPair y → IsPair z
    → IsSample (int_div_euclid ((pos 2 *ℤ s) +ℤ (x +ℤ (y +ℤ z))) (pos 8))
IsSample-eighth s x y z eighth is_sample x_pair y_pair z_pair =
    eighth _ (omega (arith, ints)) (omega (arith, ints))

-- a sample fits a byte
pub sample_fits : (s : ℤ) → IsSample s → FitsSigned w8 (to_z w16 (of_z w16 s))
sample_fits s is_sample = omega (arith, ints)

-- a sample is passed as it is
pub sample_is : (s : ℤ) → IsSample s → to_z w8 (of_z w8 (to_z w16 (of_z w16 s))) ≡ s
sample_is s is_sample = omega (arith, ints)

-- the sum that the code computes fits its type
pub sum_code_fits : (s x y z : ℤ) → IsSample s → IsPair x → IsPair y → IsPair z
    → FitsSigned w16 (code_sum s x y z)
sum_code_fits s x y z is_sample x_pair y_pair z_pair =
    subst (FitsSigned w16) (sym (sum_is s x y z is_sample x_pair y_pair z_pair))
    (sum_fits s x y z is_sample x_pair y_pair z_pair)

-- and it is the sum
pub sum_code_is : (s x y z : ℤ) → IsSample s → IsPair x → IsPair y → IsPair z
    → to_z w16 (of_z w16 (code_sum s x y z)) ≡ (pos 2 *ℤ s) +ℤ (x +ℤ (y +ℤ z))
sum_code_is s x y z is_sample x_pair y_pair z_pair =
    to_z-of_z w16 (code_sum s x y z) (sum_code_fits s x y z is_sample x_pair y_pair z_pair)
    ∙ sum_is s x y z is_sample x_pair y_pair z_pair

-- an eighth of equal parts is the same
pub same_eighth : (s s' x x' y y' z z' : ℤ) → s ≡ s' → x ≡ x' → y ≡ y' → z ≡ z'
    → int_div_euclid ((pos 2 *ℤ s) +ℤ (x +ℤ (y +ℤ z))) (pos 8)
    ≡ int_div_euclid ((pos 2 *ℤ s') +ℤ (x' +ℤ (y' +ℤ z'))) (pos 8)
same_eighth s s' x x' y y' z z' s_is x_is y_is z_is =
    λ i. int_div_euclid ((pos 2 *ℤ s_is i) +ℤ (x_is i +ℤ (y_is i +ℤ z_is i))) (pos 8)

-- the sum of equal parts is the same
pub both : {a a' b b' : ℤ} → a ≡ a' → b ≡ b' → a +ℤ b ≡ a' +ℤ b'
both a_is b_is = λ i. a_is i +ℤ b_is i
