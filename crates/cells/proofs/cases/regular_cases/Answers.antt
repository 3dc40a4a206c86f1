-- The case of the next sign number comes behind those so far.
use Rattle.std.proofs.Common.{◌+◌, sym, ap, ◌∙◌, subst}
use Rattle.terrain.specs.Curves.{fan}
use Rattle.terrain.specs.Cells.{regular_faces, triangles_of}
use Rattle.cells.specs.Cases.{AreLoops, IsCase, AreCases}
use Rattle.cells.proofs.CaseTables.{cases-more}
use Rattle.cells.proofs.cases.regular_cases.Goals as goal

pub loop-signs-preserved : goal.loop-signs-preserved
unfolding triangles_of
loop-signs-preserved c =
    let here : IsCase (regular_faces c.loop-signs.signs) 12 c.new.result = record {
      loops = subst (AreLoops (regular_faces c.loop-signs.signs) 12) (sym c.new.ensures.loops)
          c.regular_loops.ensures;
      triangles = c.new.ensures.triangles ∙ ap fan c.regular_loops.ensures.exact;
    } in
    subst (AreCases regular_faces 12 (c.loop-signs.signs + 1)) (sym c.in_ok-push.ensures.items)
    (cases-more regular_faces 12 c.loop-signs.signs c.loop-signs.cases.items c.new.result
    c.loop-signs.invariant here)
