-- The triangles of the faces so far were added.
use Rattle.std.proofs.Common.{◌≡◌, ◌+◌, ◌*◌, ◌≤◌, length, take}
use Rattle.std.specs.Prelude.{flat_map}
use Rattle.lattice.specs.Face.{faces}
use Rattle.terrain.specs.Blocks.{face_samples, over_squares}
use Rattle.terrain.specs.Cells.{transition_triangles}
use Rattle.terrain.specs.Samples.{Field}
use Rattle.block_mesh.specs.declared.mesher.TheConstants.{LAYER_KEYS}
use Rattle.block_mesh.specs.Builder.{AddsTriangles}
use Rattle.bricks.proofs.BrickLemmas.{rim_part}
use Rattle.block_mesh.proofs.mesher.add_faces.Given as goal

abbrev pub invariant-loop-face : goal.invariant-loop-face
invariant-loop-face l = record {
  few : length l.builder.edges ≤ length l.fn.builder.edges + LAYER_KEYS * l.face-index;
  most : l.at ≤ 1089 * l.face-index;
  at : (s : Field) → l.at
      ≡ length (flat_map (rim_part l.brick.rim (face_samples s l.brick.node))
      (take l.face-index faces));
  adds : AddsTriangles l.brick (λ s. flat_map (rim_part l.brick.rim (λ face.
      over_squares l.brick.node face (transition_triangles s l.brick.node.level face)))
      (take l.face-index faces)) l.fn.builder l.builder;
}
