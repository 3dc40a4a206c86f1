-- The samples of a plain leaf, all of which have one sign, and those of its faces.
--
-- For the mesher above, which then makes an empty mesh without looking at samples. All samples of such a brick have the
-- sign of the low corner's (`plain-leaf`, `plain-faces`), by CubeLemmas. As tests on lists, either none of them is
-- solid or all are (`plain-leaf-test`, `plain-faces-test`): that is what the mesher tests of samples.
use Rattle.std.proofs.Common.{◌≡◌, ℕ, Bool, true, false, ◌||◌, not, List, ℤ, ap}
use Rattle.std.specs.List.{list_all}
use Rattle.std.specs.Prelude.{All}
use Rattle.std.proofs.lemmas.Bool.{or_left, or_right}
use Rattle.std.proofs.lemmas.List.Elements.{All-weaker}
use Rattle.std.proofs.lemmas.List.Sums.{list_all-from_AllPass}
use Rattle.lattice.specs.declared.node.Node.{Node}
use Rattle.lattice.specs.Node.{low_corner}
use Rattle.terrain.specs.Blocks.{face_samples, leaf_samples}
use Rattle.terrain.specs.Samples.{Field, is_solid}
use Rattle.bricks.specs.Brick.{over_rim}
use Rattle.bricks.specs.Even.{IsPlainLeaf}
use Rattle.bricks.proofs.CubeLemmas.{faces-all, leaf-all}

-- all samples of a plain leaf have the sign of its low corner's
pub plain-leaf : (s : Field) (n : Node) → IsPlainLeaf s n
    → All (λ sample. is_solid sample ≡ is_solid (s (low_corner n))) (leaf_samples s n)
plain-leaf s n plain = leaf-all (λ sample. is_solid sample ≡ is_solid (s (low_corner n))) s n plain

-- so do the finer ones of the faces whose bits are set in a rim
pub plain-faces : (s : Field) (n : Node) (rim : ℕ) → (n.level ≡ 0 → rim ≡ 0) → IsPlainLeaf s n
    → All (λ sample. is_solid sample ≡ is_solid (s (low_corner n)))
    (over_rim rim (face_samples s n))
plain-faces s n rim none plain =
    faces-all (λ sample. is_solid sample ≡ is_solid (s (low_corner n))) s n plain rim none

-- where all samples of a list have one sign, none of them is solid or all are
pub one-sign-test : (solid : Bool) (samples : List ℤ)
    → All (λ sample. is_solid sample ≡ solid) samples
    → (list_all (λ sample. not (is_solid sample)) samples || list_all is_solid samples) ≡ true
one-sign-test true samples all =
    or_right (list_all (λ sample. not (is_solid sample)) samples) (list_all is_solid samples)
    (list_all-from_AllPass is_solid samples all)
one-sign-test false samples all =
    let is_empty : ℤ → Bool = λ sample. not (is_solid sample) in
    or_left (list_all is_empty samples) (list_all is_solid samples)
    (list_all-from_AllPass is_empty samples (All-weaker (λ sample. is_solid sample ≡ false)
    (λ sample. is_empty sample ≡ true) (λ sample clear. ap not clear) samples all))

-- that of a plain leaf's samples
pub plain-leaf-test : (s : Field) (n : Node) → IsPlainLeaf s n
    → (list_all (λ sample. not (is_solid sample)) (leaf_samples s n)
    || list_all is_solid (leaf_samples s n)) ≡ true
plain-leaf-test s n plain =
    one-sign-test (is_solid (s (low_corner n))) (leaf_samples s n) (plain-leaf s n plain)

-- and of those of its faces
pub plain-faces-test : (s : Field) (n : Node) (rim : ℕ) → (n.level ≡ 0 → rim ≡ 0) → IsPlainLeaf s n
    → (list_all (λ sample. not (is_solid sample)) (over_rim rim (face_samples s n))
    || list_all is_solid (over_rim rim (face_samples s n))) ≡ true
plain-faces-test s n rim none plain =
    one-sign-test (is_solid (s (low_corner n))) (over_rim rim (face_samples s n))
    (plain-faces s n rim none plain)
