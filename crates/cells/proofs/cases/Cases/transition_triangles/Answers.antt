-- The triangles have the keys of the loops.
use Rattle.std.proofs.Common.{◌<◌, subst, sym}
use Rattle.std.specs.List.{AllByRecursion}
use Rattle.terrain.specs.Cells.{transition_faces}
use Rattle.cells.proofs.CaseTables.{triangles-below}
use Rattle.cells.proofs.cases.Cases.transition_triangles.Goals as goal

pub returns-clause-below : goal.returns-clause-below
returns-clause-below c =
    subst (AllByRecursion (AllByRecursion (λ key. key < 16))) (sym c.deref.ensures.0)
    (triangles-below (transition_faces c.args.face c.args.signs) 16 c.transition_case.result.now
    c.transition_case.ensures)
