-- The triangles have the keys of the loops.
use Rattle.std.proofs.Common.{◌<◌, subst, sym}
use Rattle.std.specs.List.{AllByRecursion}
use Rattle.terrain.specs.Cells.{regular_faces}
use Rattle.cells.proofs.CaseTables.{triangles-below}
use Rattle.cells.proofs.cases.Cases.regular_triangles.Goals as goal

pub returns-clause-below : goal.returns-clause-below
returns-clause-below c =
    subst (AllByRecursion (AllByRecursion (λ key. key < 12))) (sym c.deref.ensures.0)
    (triangles-below (regular_faces c.args.signs) 12 c.regular_case.result.now
    c.regular_case.ensures)
