-- The faces are added one after another.
use Rattle.std.proofs.Common.{◌++◌, List, ℤ, get_or, sym, ap, ◌∙◌, subst}
use Rattle.std.specs.Prelude.{All}
use Rattle.std.proofs.lemmas.List.{append-nil}
use Rattle.lattice.specs.declared.point.Face.{Face}
use Rattle.lattice.specs.declared.point.Face.TheVariants.{XLow}
use Rattle.lattice.specs.Face.{faces}
use Rattle.terrain.specs.Samples.{IsSample}
use Rattle.terrain.specs.Blocks.{face_samples}
use Rattle.field_pages.specs.Pages.{sample_at}
use Rattle.bricks.proofs.BrickLemmas.{faces-more, rim_part, rim_part-clear, rim_part-set}
use Rattle.bricks.proofs.brick.push_faces.Goals as goal
use Rattle.bricks.proofs.brick.push_faces.Goals.{then-has_face+in_ok-push_face, else-has_face}

pub loop-face-preserved : goal.loop-face-preserved
loop-face-preserved c =
    let f : Face → List ℤ = face_samples (sample_at c.args.version.now) c.args.leaf in
    let face : Face = get_or faces c.loop-face.face-index XLow in
    let start = c.args.samples.now.items in
    let before = c.loop-face.samples.items in
    elim c.if-has_face.branch [
      | then-has_face+in_ok-push_face w ↦ record {
        added = faces-more (rim_part c.args.rim f) start before c.if-has_face.samples.items
            c.loop-face.face-index c.loop-face-test.true c.loop-face.invariant.added
            (ap (λ v. v.items) w.samples-is ∙ w.in_ok-push_face.ensures.added
            ∙ ap (λ more. before ++ more) (rim_part-set c.args.rim f face
            (sym c.has_face.ensures ∙ w.if-has_face.true)));
        range = λ h. subst (λ v. All IsSample v.items) (sym w.samples-is)
            (w.in_ok-push_face.ensures.range (c.loop-face.invariant.range h));
      }
      | else-has_face w ↦ record {
        added = faces-more (rim_part c.args.rim f) start before c.if-has_face.samples.items
            c.loop-face.face-index c.loop-face-test.true c.loop-face.invariant.added
            (ap (λ v. v.items) w.samples-is ∙ sym (append-nil before)
            ∙ ap (λ more. before ++ more) (rim_part-clear c.args.rim f face
            (sym c.has_face.ensures ∙ w.if-has_face.false)));
        range = λ h. subst (λ v. All IsSample v.items) (sym w.samples-is)
            (c.loop-face.invariant.range h);
      }
    ]
