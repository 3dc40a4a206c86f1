-- A step for each of the three edges.
use Rattle.std.proofs.Common.{◌<◌, [], ◌∷◌, ap, ◌∙◌, map, arith}
use Rattle.cells.specs.declared.edges.TheConstants.{REGULAR_EDGES}
use Rattle.block_mesh.specs.CellSteps.{number_step}
use Rattle.block_mesh.proofs.LeafCellLemmas.{item-at, three}
use Rattle.block_mesh.proofs.cell_steps.steps_of.Goals as goal

pub edge_step-requires : goal.edge_step-requires
edge_step-requires c =
    item-at (λ edge. edge < REGULAR_EDGES) c.args.triangle.now 0 c.requires
    (omega (arith, c.told-triangle))

pub edge_step-requires-2 : goal.edge_step-requires-2
edge_step-requires-2 c =
    item-at (λ edge. edge < REGULAR_EDGES) c.args.triangle.now 1 c.requires
    (omega (arith, c.told-triangle))

pub edge_step-requires-3 : goal.edge_step-requires-3
edge_step-requires-3 c =
    item-at (λ edge. edge < REGULAR_EDGES) c.args.triangle.now 2 c.requires
    (omega (arith, c.told-triangle))

pub returns : goal.returns
returns c =
    (λ i. c.edge_step.ensures i ∷ c.edge_step-2.ensures i ∷ c.edge_step-3.ensures i ∷ [])
    ∙ ap (map number_step) (three c.args.triangle.now c.told-triangle)
