-- The triangles of the cell's sign number are those of the cell.
use Rattle.std.proofs.Common.{◌≡◌, refl, sym, subst}
use Rattle.std.proofs.lemmas.Result.{on_ok_weaker}
use Rattle.std.specs.List.{AllByRecursion}
use Rattle.terrain.specs.Blocks.{cell_corner}
use Rattle.terrain.specs.Cells.{IsPresent, regular_faces, regular_triangles, triangles_of}
use Rattle.terrain.specs.Samples.{Field}
use Rattle.bricks.specs.Brick.{HasSamples}
use Rattle.block_mesh.specs.LeafCells.{cell_triangles}
use Rattle.block_mesh.proofs.BuilderLemmas.{AddsTriangles-same}
use Rattle.block_mesh.proofs.CellTriangleLemmas.{regular-are}
use Rattle.block_mesh.proofs.mesher.add_cell.Goals as goal
use Rattle.block_mesh.proofs.mesher.add_cell.Goals.{After-regular_signs-signs}

are : (c : After-regular_signs-signs) → (s : Field) → HasSamples s c.args.brick.now
    → cell_triangles c.args.brick.now.node c.args.cell
    (triangles_of (regular_faces c.regular_signs-signs.result))
    ≡ regular_triangles s c.args.brick.now.node.level
    (cell_corner c.args.brick.now.node c.args.cell.z c.args.cell.y c.args.cell.x)
are c s has =
    regular-are s c.args.brick.now.node c.args.cell c.regular_signs-signs.result
    (triangles_of (regular_faces c.regular_signs-signs.result))
    (c.regular_signs-signs.ensures s c.args.brick.now.node c.args.cell.z c.args.cell.y
    (c.requires.rows s has))
    refl

pub add_regular-requires-clause-present : goal.add_regular-requires-clause-present
add_regular-requires-clause-present c = λ s has.
    let d = (goal.at.add_regular-requires-clause-present c).After-regular_signs-signs in
    let n = c.args.brick.now.node in
    let cell = c.args.cell in
    subst (AllByRecursion (AllByRecursion (IsPresent s))) (sym (are d s has))
    (c.keys_of_cells_are_present.ensures.regular s n.level (cell_corner n cell.z cell.y cell.x))

pub returns-clause-adds : goal.returns-clause-adds
returns-clause-adds c =
    let d = (goal.at.returns-clause-adds c).After-regular_signs-signs in
    let b = c.args.brick.now in
    let n = b.node in
    let cell = c.args.cell in
    on_ok_weaker c.add_regular.result (AddsTriangles-same b
    (λ _. cell_triangles n cell (triangles_of (regular_faces c.regular_signs-signs.result)))
    (λ s. regular_triangles s n.level (cell_corner n cell.z cell.y cell.x)) c.args.builder.now
    c.add_regular.new.self (are d)) c.add_regular.ensures.adds
