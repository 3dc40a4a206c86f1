-- The entry at the number's place is the edge of that number.
use Rattle.std.proofs.Common.{◌<◌, sym, subst}
use Rattle.cells.proofs.EdgeTables.{transition_edge-point, transition_edge-low}
use Rattle.cells.proofs.edges.transition_edge.Goals as goal

pub returns-clause-point : goal.returns-clause-point
returns-clause-point c =
    transition_edge-point c.args.number c.from.result _ c.from.ensures c.requires

pub returns-clause-low : goal.returns-clause-low
returns-clause-low c =
    subst (λ point. point < 9)
    (sym (transition_edge-point c.args.number c.from.result _ c.from.ensures c.requires))
    (transition_edge-low c.args.number c.requires)
