-- Leaves all of whose points have one sample: what the pages tell, and what the leaf's lists are then.
--
-- For `even.rt` and for bricks of one sample. A leaf's cube meets a whole number of pages, as nodes begin where pages
-- do (`begins-page`). Where the cube has one sample, all items of each list are it, by CubeLemmas; so each list is that
-- sample so many times (`all-one`, `even-leaf`, `even-face`), and the two lists of a brick are (`even-samples`,
-- `even-range`).
use Rattle.std.proofs.Common.{◌≡◌, ℕ, ◌+◌, ◌*◌, ◌%◌, ◌^◌, ◌≤◌, List, [], ◌∷◌, ℤ, pos, length, get_or, replicate, SFits, w8, to_z, of_z, refl, sym, ap, ◌∙◌, arith}
use Rattle.std.specs.Prelude.{All, Result, Ok, Err, OnOk}
use Rattle.std.proofs.lemmas.Int.{to_z-of_z}
use Rattle.std.proofs.lemmas.List.{get_or-replicate}
use Rattle.std.proofs.lemmas.List.Elements.{All-head, All-replicate, All-tail}
use Rattle.std.proofs.lemmas.Nat.{one_shl}
use Rattle.lattice.specs.declared.node.Node.{Node}
use Rattle.lattice.specs.declared.point.Face.{Face}
use Rattle.lattice.specs.declared.point.Point.{Point}
use Rattle.lattice.specs.declared.settings.TheConstants.{MAX_DEPTH}
use Rattle.lattice.specs.Node.{low_corner, node_side}
use Rattle.lattice.specs.Steps.{point_at}
use Rattle.terrain.specs.Blocks.{face_samples, leaf_samples}
use Rattle.terrain.specs.Samples.{Field, IsSample}
use Rattle.bricks.specs.Brick.{face_bit, over_rim}
use Rattle.bricks.specs.Even.{IsEvenLeaf}
use Rattle.bricks.specs.Samples.{AreInRange, AreSamplesOf}
use Rattle.bricks.specs.declared.samples.Samples.TheVariants.{Even}
use Rattle.bricks.proofs.BrickLemmas.{length-face, length-leaf, over_rim-same}
use Rattle.bricks.proofs.CubeLemmas.{face-all, leaf-all, over_rim-all}
use Rattle.bricks.proofs.FaceCutLemmas.{level-some}
use Rattle.bricks.proofs.SampleLemmas.{leaf_samples-at}

-- how many pages a leaf's cube meets on an axis, as they are counted
pub pages-are : (n : Node) → n.level ≤ MAX_DEPTH → 1 * 2 ^ n.level % 2 ^ 32 + 1 ≡ 2 ^ n.level + 1
pages-are n few = ap (λ m. m + 1) (one_shl n.level 32 (omega (arith, few)))

-- a node begins where a page does
pub begins-page : (index level : ℕ) → index * node_side level % 16 ≡ 0
begins-page index level =
    let by_pages : index * (16 * 2 ^ level) ≡ 16 * (index * 2 ^ level) = grind arith in
    omega (arith, by_pages)

-- ---- the samples of an even leaf

-- lists of one item alone
all-one : {A : Type 0} (a : A) (xs : List A) → All (λ x. x ≡ a) xs → replicate (length xs) a ≡ xs
all-one a [] all = refl
all-one {A} a (x ∷ xs) all =
    let is : A → Type 0 = λ y. y ≡ a in
    λ i. sym (All-head is x xs all) i ∷ all-one a xs (All-tail is x xs all) i

-- an even leaf has one sample alone
pub even-leaf : (s : Field) (n : Node) → IsEvenLeaf s n
    → replicate 4913 (s (low_corner n)) ≡ leaf_samples s n
even-leaf s n even =
    let low : ℤ = s (low_corner n) in
    ap (λ m. replicate m low) (sym (length-leaf s n))
    ∙ all-one low (leaf_samples s n) (leaf-all (λ v. v ≡ low) s n even)

-- and so do its faces
pub even-face : (s : Field) (n : Node) (face : Face) → 1 ≤ n.level → IsEvenLeaf s n
    → replicate 1089 (s (low_corner n)) ≡ face_samples s n face
even-face s n face some even =
    let low : ℤ = s (low_corner n) in
    ap (λ m. replicate m low) (sym (length-face s n face))
    ∙ all-one low (face_samples s n face) (face-all (λ v. v ≡ low) s n even some face)

-- all samples of an even leaf are that of its low corner
pub even-samples : (s : Field) (n : Node) (rim : ℕ) (v : ℤ) → v ≡ s (low_corner n)
    → (n.level ≡ 0 → rim ≡ 0) → IsEvenLeaf s n → AreSamplesOf s n rim (Even v)
even-samples s n rim v is none even =
    let low : ℤ = s (low_corner n) in
    record {
      leaf = ap (replicate 4913) is ∙ even-leaf s n even;
      faces = ap (λ w. over_rim rim (λ _. replicate 1089 w)) is
          ∙ over_rim-same rim (λ _. replicate 1089 low) (face_samples s n) (λ face on.
          even-face s n face (level-some n.level rim (face_bit face) none on) even);
    }

-- samples that are all one are in range where it is
pub even-range : (rim : ℕ) (v : ℤ) → IsSample v → AreInRange rim (Even v)
even-range rim v good = record {
  leaf = All-replicate IsSample 4913 v good;
  faces = over_rim-all IsSample rim (λ _. replicate 1089 v) (λ _ _.
      All-replicate IsSample 1089 v good);
}

-- the first sample of a leaf
pub first-sample : (s : Field) (n : Node) (rim : ℕ) (v : ℤ) → AreSamplesOf s n rim (Even v)
    → v ≡ s (low_corner n)
first-sample s n rim v are =
    let corner : Point = record { z = 0; y = 0; x = 0 } in
    let here : point_at n.level n corner ≡ low_corner n = λ i. record {
      z = stays (low_corner n).z i;
      y = stays (low_corner n).y i;
      x = stays (low_corner n).x i;
    } in
    sym (get_or-replicate 4913 0 v (pos 0) (omega arith))
    ∙ ap (λ xs. get_or xs 0 (pos 0)) are.leaf
    ∙ leaf_samples-at s n corner (pos 0)
    (record { z = omega arith; y = omega arith; x = omega arith })
    ∙ ap s here
  where
    stays : (m : ℕ) → m + 2 ^ n.level * 0 ≡ m
    stays m = omega arith

-- the sample that was read at an even leaf's low corner, as it is kept
pub even-item : (s : Field) (n : Node) (low : Point) (v : ℤ) → low ≡ low_corner n → v ≡ s low
    → SFits w8 v → to_z w8 (of_z w8 v) ≡ s (low_corner n)
even-item s n low v low_is v_is fits = to_z-of_z w8 v fits ∙ v_is ∙ ap s low_is

-- what follows from what is so after a success
pub on-ok : {T E P Q : Type 0} (r : Result T E) → (P → Q) → OnOk r P → OnOk r Q
on-ok (Ok v) f h = f h
on-ok (Err e) f h = tt
