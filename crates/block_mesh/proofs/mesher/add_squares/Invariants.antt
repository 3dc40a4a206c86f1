-- The squares before the u-th were added.
use Rattle.std.proofs.Common.{◌+◌, ◌*◌, ◌≤◌, length}
use Rattle.lattice.specs.Lists.{joined}
use Rattle.terrain.specs.Blocks.{square_corner}
use Rattle.terrain.specs.Cells.{transition_triangles}
use Rattle.block_mesh.specs.declared.mesher.TheConstants.{CELL_KEYS}
use Rattle.block_mesh.specs.Builder.{AddsTriangles}
use Rattle.block_mesh.proofs.mesher.add_squares.Given as goal

abbrev pub invariant-loop-u : goal.invariant-loop-u
invariant-loop-u l = record {
  few : length l.builder.edges ≤ length l.initial.builder.edges + CELL_KEYS * l.u;
  adds : AddsTriangles l.brick (λ s. joined l.u (λ u.
      transition_triangles s l.brick.node.level l.face (square_corner l.brick.node l.face l.v u)))
      l.initial.builder l.builder;
}
