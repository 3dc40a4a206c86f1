-- The case of the next sign number comes behind those so far.
use Rattle.std.proofs.Common.{◌+◌, sym, ap, ◌∙◌, subst}
use Rattle.terrain.specs.Curves.{fan}
use Rattle.terrain.specs.Cells.{transition_faces, triangles_of}
use Rattle.cells.specs.Cases.{AreLoops, IsCase, AreCases}
use Rattle.cells.proofs.CaseTables.{cases-more}
use Rattle.cells.proofs.cases.transition_cases.Goals as goal

pub loop-signs-preserved : goal.loop-signs-preserved
unfolding triangles_of
loop-signs-preserved c =
    let faces = transition_faces c.args.face in
    let here : IsCase (faces c.loop-signs.signs) 16 c.new.result = record {
      loops = subst (AreLoops (faces c.loop-signs.signs) 16) (sym c.new.ensures.loops)
          c.transition_loops.ensures;
      triangles = c.new.ensures.triangles ∙ ap fan c.transition_loops.ensures.exact;
    } in
    subst (AreCases faces 16 (c.loop-signs.signs + 1)) (sym c.in_ok-push.ensures.items)
    (cases-more faces 16 c.loop-signs.signs c.loop-signs.cases.items c.new.result
    c.loop-signs.invariant here)
