-- What the code computes of a shape's value.
use Rattle.std.proofs.Common.{◌≡◌, ℕ, ◌+◌, ◌/◌, ◌≤◌, ◌-ℤ◌, ◌*ℤ◌, ℤ, pos, neg_ℤ, ap, ◌∙◌, arith, w8, w16, to_z, of_z}
use Rattle.std.specs.Prelude.{◌≤ℤ◌}
use Rattle.std.specs.Int.{int_max}
use Rattle.std.proofs.lemmas.Int.{ints, clamps}
use Rattle.lattice.specs.declared.point.Point.{Point}
use Rattle.terrain.specs.declared.brush.TheConstants.{MAX_SAMPLE, SUBCELLS}
use Rattle.terrain.specs.Brushes.{cuboid_value}
use Rattle.terrain.specs.Samples.{IsSample, clamped_sample}
use Rattle.brushes.specs.declared.shape.TheConstants.{DEEP}
use Rattle.brushes.specs.Values.{IsInReach}

-- a sample is passed as it is
pub sample_is : (s : ℤ) → IsSample s → to_z w8 (of_z w8 s) ≡ s
sample_is s is_sample = omega (arith, ints)

-- a number of cells is passed as it is
pub apart_is : (z : ℤ) → IsInReach z → to_z w16 (of_z w16 z) ≡ z
apart_is z apart = omega (arith, ints)

-- the greatest of three numbers of cells, as the code computes it
pub greatest_is : (x y z across all : ℤ) → IsInReach x → IsInReach y → IsInReach z
    → IsInReach across
    → across ≡ int_max (to_z w16 (of_z w16 y)) (to_z w16 (of_z w16 z))
    → all ≡ int_max (to_z w16 (of_z w16 x)) (to_z w16 (of_z w16 across))
    → all ≡ int_max x (int_max y z)
greatest_is x y z across all x_apart y_apart z_apart across_apart across_is all_is =
    all_is ∙ (λ i. int_max (apart_is x x_apart i) (apart_is across across_apart i))
    ∙ ap (int_max x)
    (across_is ∙ (λ i. int_max (apart_is y y_apart i) (apart_is z z_apart i)))

-- how far a coordinate is outside a range that it lies deep inside of
beyond-deep : (low high c : ℕ) → low + DEEP ≤ c → c + DEEP ≤ high
    → int_max (pos low -ℤ pos c) (pos c -ℤ pos high) ≤ℤ neg_ℤ (pos DEEP)
beyond-deep low high c after before = omega (arith, ints, clamps)

-- the clamped value where each axis is so far inside
value-deep : (x y z : ℤ) → x ≤ℤ neg_ℤ (pos DEEP) → y ≤ℤ neg_ℤ (pos DEEP) → z ≤ℤ neg_ℤ (pos DEEP)
    → clamped_sample ((pos SUBCELLS *ℤ int_max x (int_max y z)) -ℤ pos (SUBCELLS / 2))
    ≡ neg_ℤ MAX_SAMPLE
value-deep x y z x_deep y_deep z_deep =
    let most : int_max x (int_max y z) ≤ℤ neg_ℤ (pos DEEP) = omega (arith, ints, clamps) in
    omega (arith, ints, clamps)

-- deep inside a box the value is the least
pub cuboid-deep : (lo hi p : Point) → (lo.z + DEEP ≤ p.z) × (p.z + DEEP ≤ hi.z)
    → (lo.y + DEEP ≤ p.y) × (p.y + DEEP ≤ hi.y) → (lo.x + DEEP ≤ p.x) × (p.x + DEEP ≤ hi.x)
    → clamped_sample (cuboid_value lo hi p) ≡ neg_ℤ MAX_SAMPLE
cuboid-deep lo hi p z y x =
    value-deep _ _ _ (beyond-deep lo.x hi.x p.x x.0 x.1) (beyond-deep lo.y hi.y p.y y.0 y.1)
    (beyond-deep lo.z hi.z p.z z.0 z.1)
