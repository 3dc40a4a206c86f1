-- The entry at the sign number's place is its case.
use Rattle.terrain.specs.Cells.{regular_faces}
use Rattle.cells.proofs.CaseTables.{case-at}
use Rattle.cells.proofs.cases.Cases.regular_case.Goals as goal

pub returns : goal.returns
returns c =
    case-at regular_faces 12 256 c.args.signs c.from.result c.self.inside.regular.items
    c.index.result.now c.self.invariant.regular c.ranges.signs.fits c.from.ensures c.index.ensures
