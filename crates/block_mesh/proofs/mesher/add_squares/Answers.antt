-- The squares of a row are added one after another.
use Rattle.std.proofs.Common.{◌≡◌, ℕ, ◌+◌, ◌*◌, ◌∙◌, [], ◌∷◌, List, sym, subst, inl, inr, ◌⊎◌, arith, replicate, ◌^◌, ◌-◌}
use Rattle.std.specs.Cmp.Lexicographic.{same_text}
use Rattle.lattice.specs.declared.key.Key.{Key}
use Rattle.lattice.specs.declared.node.Node.{Node}
use Rattle.lattice.specs.declared.point.Face.{Face}
use Rattle.lattice.specs.Lists.{joined}
use Rattle.terrain.specs.Blocks.{square_corner}
use Rattle.terrain.specs.Cells.{transition_triangles}
use Rattle.terrain.specs.Samples.{Field}
use Rattle.bricks.specs.Brick.{HasSamples}
use Rattle.block_mesh.specs.Builder.{AddsTriangles}
use Rattle.block_mesh.specs.Signs.{BoundSquares}
use Rattle.block_mesh.proofs.BuilderLemmas.{AddsTriangles-begun, AddsTriangles-next, AddsTriangles-none, AddsTriangles-same}
use Rattle.block_mesh.proofs.OneSignLemmas.{empty_squares-joined, face_row}
use Rattle.block_mesh.proofs.mesher.add_squares.Goals as goal
use Rattle.block_mesh.proofs.mesher.add_squares.Goals.{After-fine_row_signs-3, then-eq-via-then-eq, then-eq-via-else-eq+then-eq-2}

abbrev square : Node → Face → ℕ → Field → ℕ → List (List Key)
square n face v s u = transition_triangles s n.level face (square_corner n face v u)

bound : (c : After-fine_row_signs-3) → (s : Field) → HasSamples s c.args.brick.now
    → BoundSquares s c.args.brick.now.node c.args.face c.args.v
    (c.fine_row_signs.result ∷ c.fine_row_signs-2.result ∷ c.fine_row_signs-3.result ∷ [])
bound c s has =
    let n = c.args.brick.now.node in
    let face = c.args.face in
    let v = c.args.v in
    let fines = c.args.fines.now in
    let are = c.requires.face.are s has in
    let first = c.fine_row_signs.ensures
    ∙ face_row s n face fines are (2 * v) (2 * v * 33) (2 * v * 33 + 33)
    (omega (arith, c.requires.v))
    (omega arith) (omega arith) in
    let second = c.fine_row_signs-2.ensures
    ∙ face_row s n face fines are (2 * v + 1) (2 * v * 33 + 33) (2 * v * 33 + 66)
    (omega (arith, c.requires.v)) (omega arith) (omega arith) in
    let third = c.fine_row_signs-3.ensures
    ∙ face_row s n face fines are (2 * v + 2) (2 * v * 33 + 66) (2 * v * 33 + 99)
    (omega (arith, c.requires.v)) (omega arith) (omega arith) in
    record { is = λ i. first i ∷ second i ∷ third i ∷ [] }

pub returns-then-eq-clause-adds : goal.returns-then-eq-clause-adds
returns-then-eq-clause-adds c =
    let d = (goal.at.returns-then-eq-clause-adds c).After-fine_row_signs-3 in
    let b = c.args.brick.now in
    let rows : List ℕ = c.fine_row_signs.result ∷ c.fine_row_signs-2.result
    ∷ c.fine_row_signs-3.result ∷ [] in
    let one : (rows ≡ replicate 3 0) ⊎ (rows ≡ replicate 3 (2 ^ 33 - 1)) =
    elim c.then-eq.branch [
      | then-eq-via-then-eq w ↦ inl (same_text rows (replicate 3 0) w.if-eq.ensures)
      | then-eq-via-else-eq+then-eq-2 w ↦
          inr (same_text rows (replicate 3 (2 ^ 33 - 1)) w.if-eq-2.ensures)
    ] in
    AddsTriangles-same b (λ _. []) (λ s. joined 16 (square b.node c.args.face c.args.v s))
    c.args.builder.now c.args.builder.now
    (λ s has. sym (empty_squares-joined s b.node c.args.face c.args.v rows c.requires.face.level
    (bound d s has) one))
    (AddsTriangles-none b c.args.builder.now c.requires.builds)

pub loop-u-init : goal.loop-u-init
loop-u-init c = record {
  few = omega arith;
  adds = AddsTriangles-begun c.args.brick.now (square c.args.brick.now.node c.args.face c.args.v)
      c.args.builder.now c.requires.builds;
}

pub add_square-requires-clause-rows : goal.add_square-requires-clause-rows
add_square-requires-clause-rows c =
    bound (goal.at.add_square-requires-clause-rows c).After-fine_row_signs-3

pub add_square-requires-clause-builds : goal.add_square-requires-clause-builds
add_square-requires-clause-builds c = c.loop-u.invariant.adds.builds

pub add_square-requires-clause-room : goal.add_square-requires-clause-room
add_square-requires-clause-room c =
    omega (arith, c.requires.room, c.loop-u.invariant.few, c.loop-u-test.true)

pub loop-u-preserved : goal.loop-u-preserved
loop-u-preserved c =
    let b = c.args.brick.now in
    record {
      few = omega (arith, c.in_ok-add_square.ensures.few, c.loop-u.invariant.few);
      adds = AddsTriangles-next b (square b.node c.args.face c.args.v) c.loop-u.u
          c.args.builder.now c.loop-u.builder c.add_square.new.builder c.loop-u.invariant.adds
          c.in_ok-add_square.ensures.adds;
    }

pub returns-clause-few : goal.returns-clause-few
returns-clause-few c = omega (arith, c.loop-u.invariant.few, c.loop-u.auto.u-end)

pub returns-clause-adds : goal.returns-clause-adds
returns-clause-adds c =
    let last : c.loop-u.u ≡ 16 = omega (arith, c.loop-u.auto.u-end, c.loop-u-test.false) in
    let b = c.args.brick.now in
    subst (λ k. AddsTriangles b (λ s. joined k (square b.node c.args.face c.args.v s))
    c.args.builder.now c.loop-u.builder) last c.loop-u.invariant.adds
