-- The cells before the x-th were added. From there on the rest has the bits of the cells, and none before.
use Rattle.std.proofs.Common.{◌≡◌, ℕ, ◌+◌, ◌-◌, ◌*◌, ◌<◌, ◌≤◌, length}
use Rattle.std.specs.Int.{bit_at}
use Rattle.lattice.specs.Lists.{joined}
use Rattle.terrain.specs.Blocks.{cell_corner}
use Rattle.terrain.specs.Cells.{regular_triangles}
use Rattle.block_mesh.specs.declared.mesher.TheConstants.{CELL_KEYS}
use Rattle.block_mesh.specs.Builder.{AddsTriangles}
use Rattle.block_mesh.proofs.mesher.add_row.Given as goal

abbrev pub invariant-loop-x : goal.invariant-loop-x
invariant-loop-x l = record {
  within : l.x ≤ 16;
  end : bit_at l.rest 16 ≡ 1;
  rest : (k : ℕ) → l.x ≤ k → k ≤ 16 → bit_at l.rest k ≡ bit_at l.cells k;
  none : (k : ℕ) → k < l.x → bit_at l.rest k ≡ 0;
  few : length l.builder.edges ≤ length l.initial.builder.edges + CELL_KEYS * l.x;
  adds : AddsTriangles l.brick (λ s. joined l.x (λ x.
      regular_triangles s l.brick.node.level (cell_corner l.brick.node l.z l.y x)))
      l.initial.builder l.builder;
}

abbrev pub decreases-loop-x : goal.decreases-loop-x
decreases-loop-x l = 16 - l.x
