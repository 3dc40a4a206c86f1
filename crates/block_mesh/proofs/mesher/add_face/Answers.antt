-- The rows of squares are added one after another.
use Rattle.std.proofs.Common.{◌≡◌, ℕ, ◌∙◌, [], List, ap, sym, arith}
use Rattle.lattice.specs.declared.key.Key.{Key}
use Rattle.lattice.specs.declared.node.Node.{Node}
use Rattle.lattice.specs.declared.point.Face.{Face}
use Rattle.lattice.specs.Lists.{joined}
use Rattle.terrain.specs.Blocks.{over_squares, square_corner}
use Rattle.terrain.specs.Cells.{transition_triangles}
use Rattle.terrain.specs.Samples.{Field}
use Rattle.block_mesh.proofs.BuilderLemmas.{AddsTriangles-begun, AddsTriangles-next, AddsTriangles-none, AddsTriangles-same}
use Rattle.block_mesh.proofs.CellTriangleLemmas.{squares-joined}
use Rattle.block_mesh.proofs.OneSignLemmas.{one_sign_face}
use Rattle.block_mesh.proofs.mesher.add_face.Goals as goal

abbrev row : Node → Face → Field → ℕ → List (List Key)
row n face s v =
    joined 16 (λ u. transition_triangles s n.level face (square_corner n face v u))

pub returns-then-have_one_sign-clause-adds : goal.returns-then-have_one_sign-clause-adds
returns-then-have_one_sign-clause-adds c =
    let b = c.args.brick.now in
    let n = b.node in
    let face = c.args.face in
    AddsTriangles-same b (λ _. []) (λ s. over_squares n face (transition_triangles s n.level face))
    c.args.builder.now c.args.builder.now
    (λ s has. sym (one_sign_face s n face c.args.fines.now c.requires.face.level
    (c.requires.face.are s has) (sym c.have_one_sign.ensures ∙ c.if-have_one_sign.true)))
    (AddsTriangles-none b c.args.builder.now c.requires.builds)

pub loop-v-init : goal.loop-v-init
loop-v-init c = record {
  few = omega arith;
  adds = AddsTriangles-begun c.args.brick.now (row c.args.brick.now.node c.args.face)
      c.args.builder.now c.requires.builds;
}

pub add_squares-requires-clause-builds : goal.add_squares-requires-clause-builds
add_squares-requires-clause-builds c = c.loop-v.invariant.adds.builds

pub add_squares-requires-clause-room : goal.add_squares-requires-clause-room
add_squares-requires-clause-room c =
    omega (arith, c.requires.room, c.loop-v.invariant.few, c.loop-v-test.true)

pub loop-v-preserved : goal.loop-v-preserved
loop-v-preserved c = record {
  few = omega (arith, c.in_ok-add_squares.ensures.few, c.loop-v.invariant.few);
  adds = AddsTriangles-next c.args.brick.now (row c.args.brick.now.node c.args.face) c.loop-v.v
      c.args.builder.now c.loop-v.builder c.add_squares.new.builder c.loop-v.invariant.adds
      c.in_ok-add_squares.ensures.adds;
}

pub returns-clause-few : goal.returns-clause-few
returns-clause-few c = omega (arith, c.loop-v.invariant.few, c.loop-v.auto.v-end)

pub returns-clause-adds : goal.returns-clause-adds
returns-clause-adds c =
    let b = c.args.brick.now in
    let n = b.node in
    let face = c.args.face in
    let last : c.loop-v.v ≡ 16 = omega (arith, c.loop-v.auto.v-end, c.loop-v-test.false) in
    AddsTriangles-same b (λ s. joined c.loop-v.v (row n face s))
    (λ s. over_squares n face (transition_triangles s n.level face)) c.args.builder.now
    c.loop-v.builder
    (λ s has. ap (λ k. joined k (row n face s)) last
    ∙ squares-joined n face (transition_triangles s n.level face))
    c.loop-v.invariant.adds
