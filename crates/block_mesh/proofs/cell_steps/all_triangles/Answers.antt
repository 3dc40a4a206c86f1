-- The triangles of the next sign number come behind those so far.
use Rattle.std.proofs.Common.{◌<◌, ◌+◌, map, sym, ap, ◌∙◌, subst}
use Rattle.std.specs.List.{AllByRecursion}
use Rattle.block_mesh.specs.CellSteps.{HaveTriangleSteps, HasTriangleSteps, number_step}
use Rattle.block_mesh.proofs.CellStepLemmas.{steps-more}
use Rattle.block_mesh.proofs.cell_steps.all_triangles.Goals as goal

pub loop-signs-preserved : goal.loop-signs-preserved
loop-signs-preserved c =
    let signs = c.loop-signs.signs in
    let exact = c.regular_triangles.ensures.exact in
    let here : HasTriangleSteps signs c.triangles_by_steps.result = record {
      steps = c.triangles_by_steps.ensures ∙ ap (map (map number_step)) exact;
      edges = subst (AllByRecursion (AllByRecursion (λ edge. edge < 12))) exact
          c.regular_triangles.ensures.below;
    } in
    subst (HaveTriangleSteps (signs + 1)) (sym c.in_ok-push.ensures.items)
    (steps-more signs c.loop-signs.made.items c.triangles_by_steps.result c.loop-signs.invariant
    here)
