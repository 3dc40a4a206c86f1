-- The entry at the sign number's place is its case, since the faces of one turn have the same cells.
use Rattle.std.proofs.Common.{◌≡◌, List, true, false, sym, subst, ◌∙◌}
use Rattle.lattice.specs.declared.point.Face.TheVariants.{XLow, XHigh}
use Rattle.terrain.specs.Curves.{Polygon}
use Rattle.terrain.specs.Cells.{is_straight, transition_faces}
use Rattle.cells.specs.Cases.{IsCase}
use Rattle.cells.proofs.CaseTables.{case-at}
use Rattle.cells.proofs.TransitionFaces.{same_turn}
use Rattle.cells.proofs.cases.Cases.transition_case.Goals as goal

pub returns-then-is_straight : goal.returns-then-is_straight
returns-then-is_straight c =
    let turn : is_straight c.args.face ≡ true = sym c.is_straight.ensures ∙ c.if-is_straight.true in
    subst (λ (faces : List Polygon). IsCase faces 16 c.index.result.now)
    (sym (same_turn c.args.face XHigh c.args.signs turn))
    (case-at (transition_faces XHigh) 16 512 c.args.signs c.from.result
    c.self.inside.straight.items c.index.result.now c.self.invariant.straight c.requires
    c.from.ensures c.index.ensures)

pub returns-else-is_straight : goal.returns-else-is_straight
returns-else-is_straight c =
    let turn : is_straight c.args.face ≡ false =
    sym c.is_straight.ensures ∙ c.if-is_straight.false in
    subst (λ (faces : List Polygon). IsCase faces 16 c.index-else-is_straight.result.now)
    (sym (same_turn c.args.face XLow c.args.signs turn))
    (case-at (transition_faces XLow) 16 512 c.args.signs c.from-else-is_straight.result
    c.self.inside.reversed.items c.index-else-is_straight.result.now c.self.invariant.reversed
    c.requires c.from-else-is_straight.ensures c.index-else-is_straight.ensures)
