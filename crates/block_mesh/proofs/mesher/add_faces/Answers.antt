-- The faces are cut out of the finer samples one after another.
use Rattle.std.proofs.Common.{◌≡◌, ◌+◌, ◌-◌, ◌∙◌, ◌++◌, [], List, ℤ, true, false, ap, sym, subst, arith, refl, take, drop, get_or, length}
use Rattle.std.proofs.Math.Logic.{∥∥₁_elim}
use Rattle.std.specs.Prelude.{flat_map}
use Rattle.std.proofs.Math.Nat.{ℕ_set}
use Rattle.std.proofs.Math.Bridge.{le_prop}
use Rattle.std.proofs.lemmas.List.{append-nil, take_all}
use Rattle.std.proofs.lemmas.List.Elements.{All-drop, All-take}
use Rattle.lattice.specs.declared.key.Key.{Key}
use Rattle.lattice.specs.declared.point.Face.{Face}
use Rattle.lattice.specs.declared.point.Face.TheVariants.{XLow}
use Rattle.lattice.specs.Face.{faces}
use Rattle.terrain.specs.Blocks.{face_samples, over_squares}
use Rattle.terrain.specs.Cells.{is_set, transition_triangles}
use Rattle.terrain.specs.Samples.{Field, IsSample}
use Rattle.bricks.specs.Brick.{HasSamples, face_bit, over_rim}
use Rattle.block_mesh.specs.Builder.{AddsTriangles}
use Rattle.block_mesh.specs.declared.builder.Builder.{Builder}
use Rattle.bricks.proofs.BrickLemmas.{faces-more, length-face, rim_part, rim_part-clear, rim_part-set}
use Rattle.block_mesh.proofs.BuilderLemmas.{AddsTriangles-none, AddsTriangles-same, AddsTriangles-then}
use Rattle.bricks.proofs.FaceCutLemmas.{IsCut, face-cut, level-some, next-cut}
use Rattle.block_mesh.proofs.mesher.add_faces.Goals as goal
use Rattle.block_mesh.proofs.mesher.add_faces.Goals.{After-faces, else-has_face, then-has_face+in_ok-add_face}

pub loop-face-init : goal.loop-face-init
loop-face-init c = record {
  few = omega arith;
  most = omega arith;
  at = λ s. refl;
  adds = AddsTriangles-none c.args.brick.now c.args.builder.now c.requires.builds;
}

on : (c : After-faces)
    → is_set c.args.brick.now.rim (face_bit (get_or faces c.loop-face.face-index XLow)) ≡ true
on c =
    ap (λ r. is_set r (face_bit (get_or faces c.loop-face.face-index XLow)))
    (sym c.rim.ensures.value)
    ∙ sym c.has_face.ensures ∙ c.if-has_face.true

cut : (c : After-faces) → (s : Field) → HasSamples s c.args.brick.now
    → IsCut c.loop-face.at c.faces.result.now
    (face_samples s c.args.brick.now.node (get_or faces c.loop-face.face-index XLow))
cut c s has =
    let b = c.args.brick.now in
    face-cut b.rim b.node s c.loop-face.face-index c.loop-face.at c.faces.result.now
    c.loop-face-test.true (on c) (c.faces.ensures.value ∙ has.faces) (c.loop-face.invariant.at s)

pub overflow_add-fines : goal.overflow_add-fines
overflow_add-fines c = omega (arith, c.loop-face.invariant.most, c.loop-face-test.true)

pub slice_bounds-fines-end : goal.slice_bounds-fines-end
slice_bounds-fines-end c =
    ∥∥₁_elim c.faces.ensures.field le_prop
    (λ given. (cut c given.0 given.1).room)

pub add_face-requires-clause-face : goal.add_face-requires-clause-face
add_face-requires-clause-face c =
    let d = (goal.at.add_face-requires-clause-face c).After-faces in
    let b = c.args.brick.now in
    let at = c.loop-face.at in
    let face : Face = get_or faces c.loop-face.face-index XLow in
    let ours : List ℤ = take (at + 1089 - at) (drop at c.faces.result.now) in
    record {
      level = level-some b.node.level b.rim (face_bit face)
          (λ zero_level. sym c.rim.ensures.value ∙ c.rim.ensures.none zero_level) (on d);
      count = ∥∥₁_elim c.faces.ensures.field (ℕ_set (length ours) 1089)
          (λ given. ap length (cut d given.0 given.1).is ∙ length-face given.0 b.node face);
      range = All-take IsSample (at + 1089 - at) (drop at c.faces.result.now)
          (All-drop IsSample at c.faces.result.now c.faces.ensures.range);
      field = c.faces.ensures.field;
      are = λ s has. (cut d s has).is;
    }

pub add_face-requires-clause-builds : goal.add_face-requires-clause-builds
add_face-requires-clause-builds c = c.loop-face.invariant.adds.builds

pub add_face-requires-clause-room : goal.add_face-requires-clause-room
add_face-requires-clause-room c =
    omega (arith, c.requires.room, c.loop-face.invariant.few, c.loop-face-test.true)

pub loop-face-preserved : goal.loop-face-preserved
loop-face-preserved c =
    let b = c.args.brick.now in
    let n = b.node in
    let k = c.loop-face.face-index in
    let at = c.loop-face.at in
    let face : Face = get_or faces k XLow in
    let f : Field → Face → List (List Key) = λ s face.
    over_squares n face (transition_triangles s n.level face) in
    let before : Field → List (List Key) = λ s. flat_map (rim_part b.rim (f s)) (take k faces) in
    let bit_is : c.has_face.result ≡ is_set b.rim (face_bit face) =
    c.has_face.ensures ∙ ap (λ r. is_set r (face_bit face)) c.rim.ensures.value in
    let more : (s : Field) (now : List (List Key)) → now ≡ rim_part b.rim (f s) face
    → before s ++ now ≡ flat_map (rim_part b.rim (f s)) (take (k + 1) faces) =
    λ s now is. faces-more (rim_part b.rim (f s)) [] (before s) (before s ++ now) k
    c.loop-face-test.true refl (ap (λ ts. before s ++ ts) is) in
    elim c.if-has_face.branch [
      | then-has_face+in_ok-add_face w ↦
          let set : is_set b.rim (face_bit face) ≡ true = sym bit_is ∙ w.if-has_face.true in
          record {
            few = omega (
              arith,
              c.loop-face.invariant.few,
              w.in_ok-add_face.ensures.few,
              ap (λ (x : Builder). length x.edges) w.builder-is,
            );
            most = omega (arith, c.loop-face.invariant.most, w.at-is);
            at = λ s. next-cut b.rim n s k at c.if-has_face.at c.loop-face-test.true
                (c.loop-face.invariant.at s)
                (omega (
                  arith,
                  w.at-is,
                  ap length (sym (rim_part-set b.rim (face_samples s n) face set))
                      ∙ length-face s n face,
                ));
            adds = subst (λ x. AddsTriangles b
                (λ s. flat_map (rim_part b.rim (f s)) (take (k + 1) faces)) c.args.builder.now x)
                (sym w.builder-is)
                (AddsTriangles-same b (λ s. before s ++ f s face)
                (λ s. flat_map (rim_part b.rim (f s)) (take (k + 1) faces)) c.args.builder.now
                w.add_face.new.builder
                (λ s has. more s (f s face) (rim_part-set b.rim (f s) face set))
                (AddsTriangles-then b before (λ s. f s face) c.args.builder.now
                c.loop-face.builder w.add_face.new.builder c.loop-face.invariant.adds
                w.in_ok-add_face.ensures.adds));
          }
      | else-has_face w ↦
          let clear : is_set b.rim (face_bit face) ≡ false = sym bit_is ∙ w.if-has_face.false in
          record {
            few = omega (
              arith,
              c.loop-face.invariant.few,
              ap (λ (x : Builder). length x.edges) w.builder-is,
            );
            most = omega (arith, c.loop-face.invariant.most, w.at-is);
            at = λ s. next-cut b.rim n s k at c.if-has_face.at c.loop-face-test.true
                (c.loop-face.invariant.at s)
                (omega (
                  arith,
                  w.at-is,
                  ap length (sym (rim_part-clear b.rim (face_samples s n) face clear)),
                ));
            adds = subst (λ x. AddsTriangles b
                (λ s. flat_map (rim_part b.rim (f s)) (take (k + 1) faces)) c.args.builder.now x)
                (sym w.builder-is)
                (AddsTriangles-same b before
                (λ s. flat_map (rim_part b.rim (f s)) (take (k + 1) faces)) c.args.builder.now
                c.loop-face.builder
                (λ s has. sym (append-nil (before s))
                ∙ more s [] (rim_part-clear b.rim (f s) face clear))
                c.loop-face.invariant.adds);
          }
    ]

pub returns-clause-adds : goal.returns-clause-adds
returns-clause-adds c =
    let b = c.args.brick.now in
    let g : Field → Face → List (List Key) = λ s face.
    over_squares b.node face (transition_triangles s b.node.level face) in
    AddsTriangles-same b
    (λ s. flat_map (rim_part b.rim (g s)) (take c.loop-face.face-index faces))
    (λ s. over_rim b.rim (g s)) c.args.builder.now c.loop-face.builder
    (λ s has. ap (flat_map (rim_part b.rim (g s)))
    (take_all c.loop-face.face-index faces c.loop-face-test.false))
    c.loop-face.invariant.adds
