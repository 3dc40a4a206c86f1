-- The layers before this one were added.
use Rattle.std.proofs.Common.{ℕ, ◌+◌, ◌*◌, ◌≤◌, List, length}
use Rattle.lattice.specs.declared.key.Key.{Key}
use Rattle.lattice.specs.declared.node.Node.{Node}
use Rattle.lattice.specs.Lists.{joined}
use Rattle.terrain.specs.Blocks.{cell_corner}
use Rattle.terrain.specs.Cells.{regular_triangles}
use Rattle.terrain.specs.Samples.{Field}
use Rattle.block_mesh.specs.declared.mesher.TheConstants.{LAYER_KEYS}
use Rattle.block_mesh.specs.Builder.{AddsTriangles}
use Rattle.block_mesh.proofs.mesher.add_cells.Given as goal

abbrev pub layer : Node → Field → ℕ → List (List Key)
layer n s z =
    joined 16 (λ y. joined 16 (λ x. regular_triangles s n.level (cell_corner n z y x)))

abbrev pub invariant-loop-z : goal.invariant-loop-z
invariant-loop-z l = record {
  few : length l.builder.edges ≤ length l.fn.builder.edges + LAYER_KEYS * l.z;
  adds : AddsTriangles l.brick (λ s. joined l.z (layer l.brick.node s)) l.fn.builder l.builder;
}
