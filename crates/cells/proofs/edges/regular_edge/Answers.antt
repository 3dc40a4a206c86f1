-- The entry at the number's place is the edge of that number.
use Rattle.std.proofs.Common.{◌<◌, sym, subst}
use Rattle.cells.proofs.EdgeTables.{regular_edge-corner, regular_edge-low}
use Rattle.cells.proofs.edges.regular_edge.Goals as goal

pub returns-clause-corner : goal.returns-clause-corner
returns-clause-corner c =
    regular_edge-corner c.args.number c.from.result _ c.from.ensures c.requires

pub returns-clause-low : goal.returns-clause-low
returns-clause-low c =
    subst (λ corner. corner < 8)
    (sym (regular_edge-corner c.args.number c.from.result _ c.from.ensures c.requires))
    (regular_edge-low c.args.number c.requires)
