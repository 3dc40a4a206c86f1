-- Each lateral face comes behind the squares and the lateral faces before it.
use Rattle.std.proofs.Common.{rules, ◌∙◌}
use Rattle.cells.proofs.TransitionFaces.{lateral-more}
use Rattle.cells.proofs.transition.transition_faces.Goals as goal

pub loop-lateral-preserved : goal.loop-lateral-preserved
loop-lateral-preserved c = record {
  faces =
      c.push-in-loop-lateral.ensures.items
      ∙ lateral-more c.args.face c.args.signs c.loop-lateral.lateral-index _
      c.loop-lateral.faces.items c.polygon-in-loop-lateral.result
      c.turned_polygon-in-loop-lateral.result c.loop-lateral-test.true
      c.loop-lateral.invariant.faces
      c.polygon-in-loop-lateral.ensures c.turned_polygon-in-loop-lateral.ensures;
  count = search rules;
}
