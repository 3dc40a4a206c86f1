-- What the loops of the faces are, with the sign number as it was given.
use Rattle.std.proofs.Common.{◌≡◌, ◌<◌, sym, ◌∙◌, subst, ap}
use Rattle.std.specs.List.{AllByRecursion}
use Rattle.terrain.specs.Curves.{HaveSameNet, cell_curves, curve_edges, loops, fan, all_edges}
use Rattle.terrain.specs.Cells.{regular_faces}
use Rattle.cells.proofs.RegularLoops.{regular-below}
use Rattle.cells.proofs.case.regular_loops.Goals as goal

pub returns : goal.returns
returns c =
    let same : c.regular_faces.result.items ≡ regular_faces c.args.signs =
    c.regular_faces.ensures ∙ ap regular_faces c.into.ensures in
    let exact : c.loops.result ≡ loops (regular_faces c.args.signs) =
    c.loops.ensures.exact ∙ ap loops same in
    record {
      exact = exact;
      net = subst (λ faces. HaveSameNet (all_edges (fan c.loops.result))
          (curve_edges (cell_curves faces))) same c.loops.ensures.net;
      three = c.loops.ensures.three;
      below = subst (AllByRecursion (AllByRecursion (λ key. key < 12))) (sym exact)
          (regular-below c.args.signs c.ranges.signs.fits);
    }
