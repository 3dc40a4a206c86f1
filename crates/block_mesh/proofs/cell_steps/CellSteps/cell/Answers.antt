-- The entry at the sign number's place has its triangles.
use Rattle.block_mesh.proofs.CellStepLemmas.{steps-at}
use Rattle.block_mesh.proofs.cell_steps.CellSteps.cell.Goals as goal

pub returns : goal.returns
returns c =
    steps-at 256 c.args.signs c.from.result c.self.inside.triangles.items c.index.result.now
    c.self.invariant c.ranges.signs.fits c.from.ensures c.index.ensures
