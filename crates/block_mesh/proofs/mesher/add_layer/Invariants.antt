-- The rows before this one were added.
use Rattle.std.proofs.Common.{ℕ, ◌+◌, ◌*◌, ◌≤◌, List, length}
use Rattle.lattice.specs.declared.key.Key.{Key}
use Rattle.lattice.specs.declared.node.Node.{Node}
use Rattle.lattice.specs.Lists.{joined}
use Rattle.terrain.specs.Blocks.{cell_corner}
use Rattle.terrain.specs.Cells.{regular_triangles}
use Rattle.terrain.specs.Samples.{Field}
use Rattle.block_mesh.specs.declared.mesher.TheConstants.{ROW_KEYS}
use Rattle.block_mesh.specs.Builder.{AddsTriangles}
use Rattle.block_mesh.proofs.mesher.add_layer.Given as goal

abbrev pub row : Node → Field → ℕ → ℕ → List (List Key)
row n s z y = joined 16 (λ x. regular_triangles s n.level (cell_corner n z y x))

abbrev pub invariant-loop-y : goal.invariant-loop-y
invariant-loop-y l = record {
  few : length l.builder.edges ≤ length l.fn.builder.edges + ROW_KEYS * l.y;
  adds : AddsTriangles l.brick (λ s. joined l.y (row l.brick.node s l.z)) l.fn.builder l.builder;
}
