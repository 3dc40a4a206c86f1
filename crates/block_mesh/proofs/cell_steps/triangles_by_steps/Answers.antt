-- One triangle after another.
use Rattle.std.proofs.Common.{◌<◌, ◌++◌, [], ◌∷◌, map, ap, ◌∙◌}
use Rattle.std.proofs.lemmas.List.{take_all}
use Rattle.cells.specs.declared.edges.TheConstants.{REGULAR_EDGES}
use Rattle.block_mesh.specs.CellSteps.{number_step}
use Rattle.block_mesh.proofs.LeafCellLemmas.{row-at, triangles-more}
use Rattle.block_mesh.proofs.cell_steps.triangles_by_steps.Goals as goal

pub steps_of-requires : goal.steps_of-requires
steps_of-requires c =
    row-at (λ edge. edge < REGULAR_EDGES) c.args.triangles.now c.loop-triangle.triangle-index
    c.requires.edges c.loop-triangle-test.true

pub loop-triangle-preserved : goal.loop-triangle-preserved
loop-triangle-preserved c =
    let ts = c.args.triangles.now in
    let i = c.loop-triangle.triangle-index in
    c.push.ensures.items
    ∙ (λ j. c.loop-triangle.invariant j ++ c.steps_of.ensures j ∷ [])
    ∙ triangles-more number_step ts i c.loop-triangle-test.true

pub returns : goal.returns
returns c =
    c.loop-triangle.invariant
    ∙ ap (map (map number_step)) (take_all c.loop-triangle.triangle-index c.args.triangles.now
    c.loop-triangle-test.false)
