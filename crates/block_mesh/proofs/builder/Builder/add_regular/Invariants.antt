-- The triangles so far were added.
use Rattle.std.proofs.Common.{◌+◌, ◌*◌, ◌≤◌, take, length}
use Rattle.terrain.specs.Cells.{regular_faces, triangles_of}
use Rattle.block_mesh.specs.Builder.{AddsTriangles}
use Rattle.block_mesh.specs.LeafCells.{cell_triangles}
use Rattle.block_mesh.proofs.builder.Builder.add_regular.Given as goal

abbrev pub invariant-loop-triangle : goal.invariant-loop-triangle
invariant-loop-triangle l = record {
  few : length l.self.edges ≤ length l.initial.self.edges + 3 * l.triangle-index;
  adds : AddsTriangles l.brick (λ _. cell_triangles l.brick.node l.fn.cell
      (take l.triangle-index (triangles_of (regular_faces l.signs))))
      l.initial.self l.self;
}
