-- The rows of squares before the v-th were added.
use Rattle.std.proofs.Common.{◌+◌, ◌*◌, ◌≤◌, length}
use Rattle.lattice.specs.Lists.{joined}
use Rattle.terrain.specs.Blocks.{square_corner}
use Rattle.terrain.specs.Cells.{transition_triangles}
use Rattle.block_mesh.specs.declared.mesher.TheConstants.{ROW_KEYS}
use Rattle.block_mesh.specs.Builder.{AddsTriangles}
use Rattle.block_mesh.proofs.mesher.add_face.Given as goal

abbrev pub invariant-loop-v : goal.invariant-loop-v
invariant-loop-v l = record {
  few : length l.builder.edges ≤ length l.fn.builder.edges + ROW_KEYS * l.v;
  adds : AddsTriangles l.brick (λ s. joined l.v (λ v. joined 16 (λ u.
      transition_triangles s l.brick.node.level l.face (square_corner l.brick.node l.face v u))))
      l.fn.builder l.builder;
}
