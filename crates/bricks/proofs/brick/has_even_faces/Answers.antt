-- The faces are compared one after another.
use Rattle.std.proofs.Common.{◌≡◌, List, ℤ, true, get_or, replicate, to_z, of_z, w8, refl, sym, ap, ◌∙◌}
use Rattle.std.specs.Prelude.{flat_map}
use Rattle.std.proofs.lemmas.Bool.{false≢true}
use Rattle.std.proofs.lemmas.Int.{to_z-of_z}
use Rattle.std.proofs.lemmas.List.{length-replicate, take_all}
use Rattle.lattice.specs.declared.point.Face.{Face}
use Rattle.lattice.specs.declared.point.Face.TheVariants.{XLow}
use Rattle.lattice.specs.Face.{faces}
use Rattle.terrain.specs.Blocks.{face_samples}
use Rattle.terrain.specs.Cells.{is_set}
use Rattle.field_pages.specs.Pages.{sample_at}
use Rattle.bricks.specs.Brick.{face_bit, over_rim}
use Rattle.bricks.proofs.BrickLemmas.{faces-same, length-face, rim_part, rim_part-same, rim_part-set, rim_parts-same}
use Rattle.bricks.proofs.brick.has_even_faces.Goals as goal
use Rattle.bricks.proofs.brick.has_even_faces.Goals.{else-has_face-via-then-has_face+else-not-is_face, else-has_face-via-else-has_face}

pub returns-then-not-is_face : goal.returns-then-not-is_face
returns-then-not-is_face c =
    let rim = c.args.rim in
    let sample = c.args.sample in
    let ours : Face → List ℤ = λ _. replicate 1089 sample in
    let theirs : Face → List ℤ = face_samples (sample_at c.args.version.now) c.args.leaf in
    let face : Face = get_or faces c.loop-face.face-index XLow in
    let on : is_set rim (face_bit face) ≡ true = sym c.has_face.ensures ∙ c.if-has_face.true in (
      (λ t. absurd (false≢true t)),
      (λ same. sym c.if-not-is_face.true ∙ c.is_face.ensures.1 (
          ap (replicate 1089) (to_z-of_z w8 sample c.ranges.sample)
          ∙ rim_part-set rim ours face on
          ∙ rim_parts-same rim ours theirs (λ face. length-replicate {A = ℤ} 1089 sample
          ∙ sym (length-face (sample_at c.args.version.now) c.args.leaf face)) same
          c.loop-face.face-index c.loop-face-test.true
          ∙ sym (rim_part-set rim theirs face on))),
    )

pub loop-face-preserved : goal.loop-face-preserved
loop-face-preserved c =
    let rim = c.args.rim in
    let ours : Face → List ℤ = λ _. replicate 1089 (to_z w8 (of_z w8 c.args.sample)) in
    let theirs : Face → List ℤ = face_samples (sample_at c.args.version.now) c.args.leaf in
    let face : Face = get_or faces c.loop-face.face-index XLow in
    let here : rim_part rim ours face ≡ rim_part rim theirs face =
    elim c.else-has_face.branch [
      | else-has_face-via-then-has_face+else-not-is_face w ↦
          rim_part-same rim ours theirs face (λ _. w.is_face.ensures.0 w.if-not-is_face.false)
      | else-has_face-via-else-has_face w ↦
          rim_part-same rim ours theirs face (λ on.
          absurd (false≢true (sym w.if-has_face.false ∙ c.has_face.ensures ∙ on)))
    ] in
    faces-same (rim_part rim ours) (rim_part rim theirs) c.loop-face.face-index
    c.loop-face-test.true c.loop-face.invariant here

pub returns : goal.returns
returns c =
    let rim = c.args.rim in
    let sample = c.args.sample in
    let item : to_z w8 (of_z w8 sample) ≡ sample = to_z-of_z w8 sample c.ranges.sample in
    let ours : Face → List ℤ = λ _. replicate 1089 (to_z w8 (of_z w8 sample)) in
    let theirs : Face → List ℤ = face_samples (sample_at c.args.version.now) c.args.leaf in
    let all = take_all c.loop-face.face-index faces c.loop-face-test.false in (
      (λ _. ap (λ v. over_rim rim (λ _. replicate 1089 v)) (sym item)
          ∙ ap (flat_map (rim_part rim ours)) (sym all) ∙ c.loop-face.invariant
          ∙ ap (flat_map (rim_part rim theirs)) all),
      (λ _. refl),
    )
