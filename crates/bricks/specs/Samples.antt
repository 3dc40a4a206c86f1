-- The samples of a brick, as it keeps them. This project's rule.
use Rattle.std.specs.Prelude.{◌≡◌, ℕ, ℤ, List, All, replicate}
use Rattle.lattice.specs.declared.node.Node.{Node}
use Rattle.terrain.specs.Blocks.{Brick, face_samples, leaf_samples}
use Rattle.terrain.specs.Samples.{Field, IsSample}
use Rattle.bricks.specs.Brick.{over_rim}
use Rattle.bricks.specs.declared.brick.TheConstants.{LEAF_SAMPLES}
use Rattle.bricks.specs.declared.faces.TheConstants.{FACE_SAMPLES}
use Rattle.bricks.specs.declared.samples.Samples.{Samples}
use Rattle.bricks.specs.declared.samples.Samples.TheVariants.{Even, Lists}

-- the samples of the leaf
abbrev pub leaf_list : Samples → List ℤ
leaf_list (Even sample) = replicate LEAF_SAMPLES sample
leaf_list (Lists leaf faces) = leaf.items

-- the finer samples of the faces whose bits are set in a rim
abbrev pub face_list : ℕ → Samples → List ℤ
face_list rim (Even sample) = over_rim rim (λ _. replicate FACE_SAMPLES sample)
face_list rim (Lists leaf faces) = faces.items

-- they are those that a field has for a leaf and for the faces whose bits are set in a rim
pub record AreSamplesOf (s : Field) (n : Node) (rim : ℕ) (samples : Samples) : Type 0 where
  pub leaf : leaf_list samples ≡ leaf_samples s n
  pub faces : face_list rim samples ≡ over_rim rim (face_samples s n)

-- they are from -127 to 127
pub record AreInRange (rim : ℕ) (samples : Samples) : Type 0 where
  pub leaf : All IsSample (leaf_list samples)
  pub faces : All IsSample (face_list rim samples)

-- all samples of a brick are this one
pub record IsAllOne (b : Brick) (sample : ℤ) : Type 0 where
  pub leaf : b.samples ≡ leaf_list (Even sample)
  pub faces : b.faces ≡ face_list b.rim (Even sample)
