-- The triangles so far were added, and the numbers of the edges that were met tell where their keys are.
use Rattle.std.proofs.Common.{◌+◌, ◌*◌, ◌≤◌, take, length}
use Rattle.block_mesh.specs.Builder.{AddsTriangles, HasMet}
use Rattle.block_mesh.specs.LeafCells.{square_triangles}
use Rattle.block_mesh.proofs.builder.Builder.add_transition.Given as goal

abbrev pub invariant-loop-triangle : goal.invariant-loop-triangle
invariant-loop-triangle l = record {
  few : length l.self.edges ≤ length l.initial.self.edges + 3 * l.triangle-index;
  adds : AddsTriangles l.brick (λ _. square_triangles l.brick.node l.square.face l.square.v
      l.square.u (take l.triangle-index l.triangles)) l.initial.self l.self;
  met : HasMet l.brick l.square l.met l.self;
}
