-- The faces are compared one after another.
use Rattle.std.proofs.Common.{◌≡◌, ℕ, ◌+◌, ◌-◌, ◌<◌, ◌≤◌, ◌++◌, List, [], ℤ, true, false, drop, get_or, length, take, length-append, refl, sym, ap, ◌∙◌, arith}
use Rattle.std.specs.Prelude.{flat_map}
use Rattle.std.proofs.lemmas.Bool.{false≢true}
use Rattle.std.proofs.lemmas.List.{append-nil}
use Rattle.lattice.specs.declared.point.Face.{Face}
use Rattle.lattice.specs.declared.point.Face.TheVariants.{XLow}
use Rattle.lattice.specs.Face.{faces}
use Rattle.terrain.specs.Blocks.{face_samples}
use Rattle.field_pages.specs.Pages.{sample_at}
use Rattle.bricks.proofs.BrickLemmas.{cut-out, faces-more, faces-split, length-face, rim_part, rim_part-clear, rim_part-set}
use Rattle.lattice.proofs.RowLemmas.{take-add}
use Rattle.bricks.proofs.brick.has_faces.Goals as goal
use Rattle.bricks.proofs.brick.has_faces.Goals.{Then-has_face, then-has_face+else-not-is_face, else-has_face}

-- the finer samples of each face, and the face at hand
part : (c : Then-has_face) → Face → List ℤ
part c = rim_part c.args.rim (face_samples (sample_at c.args.version.now) c.args.leaf)

face_at : (c : Then-has_face) → Face
face_at c = get_or faces c.loop-face.face-index XLow

-- it has finer samples
part-is : (c : Then-has_face)
    → face_samples (sample_at c.args.version.now) c.args.leaf (face_at c) ≡ part c (face_at c)
unfolding part face_at
part-is c = rim_part-set c.args.rim (face_samples (sample_at c.args.version.now) c.args.leaf)
    (get_or faces c.loop-face.face-index XLow) (sym c.has_face.ensures ∙ c.if-has_face.true)

length-part : (c : Then-has_face) → length (part c (face_at c)) ≡ 1089
length-part c =
    ap length (sym (part-is c))
    ∙ length-face (sample_at c.args.version.now) c.args.leaf (face_at c)

-- all samples, cut at the face's
split : (c : Then-has_face) → flat_map (part c) faces
    ≡ flat_map (part c) (take c.loop-face.face-index faces)
    ++ (part c (face_at c) ++ flat_map (part c) (drop (c.loop-face.face-index + 1) faces))
unfolding face_at
split c = faces-split (part c) c.loop-face.face-index c.loop-face-test.true

at-is : (c : Then-has_face)
    → c.loop-face.at ≡ length (flat_map (part c) (take c.loop-face.face-index faces))
unfolding part
at-is c = c.loop-face.invariant.at

count-is : (c : Then-has_face) → length c.args.samples.now ≡ length (flat_map (part c) faces)
unfolding part
count-is c = c.requires.count

-- there is room for them
room : (c : Then-has_face) → c.loop-face.at + 1089 ≤ length c.args.samples.now
room c =
    let front = flat_map (part c) (take c.loop-face.face-index faces) in
    let rest = flat_map (part c) (drop (c.loop-face.face-index + 1) faces) in
    let whole = ap length (split c) ∙ length-append front (part c (face_at c) ++ rest) in
    omega (
      arith,
      whole,
      length-append (part c (face_at c)) rest,
      length-part c,
      at-is c,
      count-is c,
    )

pub slice_bounds-ours-end : goal.slice_bounds-ours-end
slice_bounds-ours-end c = room c

pub returns-then-not-is_face : goal.returns-then-not-is_face
unfolding part face_at
returns-then-not-is_face c =
    let d = (goal.at.returns-then-not-is_face c).Then-has_face in
    let front = flat_map (part d) (take c.loop-face.face-index faces) in
    let rest = flat_map (part d) (drop (c.loop-face.face-index + 1) faces) in
    let off : c.is_face.result ≡ false = c.if-not-is_face.true in (
      (λ t. absurd (false≢true t)),
      (λ same. sym off ∙ c.is_face.ensures.1 (
          cut-out c.args.samples.now front (part d (face_at d)) rest c.loop-face.at 1089
          (same ∙ split d) (at-is d) (length-part d) ∙ sym (part-is d))),
    )

-- one face more, by its length and its samples
record OneMore (g : Face → List ℤ) (k now : ℕ) (xs : List ℤ) : Type 0 where
  at : now ≡ length (flat_map g (take (k + 1) faces))
  same : take now xs ≡ flat_map g (take (k + 1) faces)

one-more : (g : Face → List ℤ) (k at now : ℕ) (xs : List ℤ) → k < 6
    → at ≡ length (flat_map g (take k faces)) → take at xs ≡ flat_map g (take k faces)
    → now ≡ at + length (g (get_or faces k XLow))
    → take now xs ≡ take at xs ++ g (get_or faces k XLow) → OneMore g k now xs
one-more g k at now xs k_in long same count is =
    let front = flat_map g (take k faces) in
    let face = g (get_or faces k XLow) in
    let all : front ++ face ≡ flat_map g (take (k + 1) faces) =
    faces-more g [] front (front ++ face) k k_in refl refl in
    record {
      at = omega (arith, count, long, length-append front face, ap length all);
      same = is ∙ ap (λ ys. ys ++ face) same ∙ all;
    }

pub loop-face-preserved : goal.loop-face-preserved
loop-face-preserved c =
    let f : Face → List ℤ = face_samples (sample_at c.args.version.now) c.args.leaf in
    let g : Face → List ℤ = rim_part c.args.rim f in
    let k = c.loop-face.face-index in
    let face : Face = get_or faces k XLow in
    let at = c.loop-face.at in
    let xs = c.args.samples.now in
    elim c.if-has_face.branch [
      | then-has_face+else-not-is_face w ↦
          let on : w.is_face.result ≡ true = w.if-not-is_face.false in
          let ours : f face ≡ g face = rim_part-set c.args.rim f face
          (sym c.has_face.ensures ∙ w.if-has_face.true) in
          let count : at + 1089 - at ≡ 1089 = omega arith in
          let long : length (g face) ≡ 1089 =
          ap length (sym ours) ∙ length-face (sample_at c.args.version.now) c.args.leaf face in
          let more = one-more g k at c.if-has_face.at xs c.loop-face-test.true
          c.loop-face.invariant.at c.loop-face.invariant.same
          (omega (arith, w.at-is, long))
          (ap (λ n. take n xs) w.at-is ∙ take-add at 1089 xs
          ∙ ap (λ ys. take at xs ++ ys) (ap (λ n. take n (drop at xs)) (sym count)
          ∙ w.is_face.ensures.0 on ∙ ours)) in
          record { at = more.at; same = more.same }
      | else-has_face w ↦
          let none : [] ≡ g face = rim_part-clear c.args.rim f face
          (sym c.has_face.ensures ∙ w.if-has_face.false) in
          let long : length (g face) ≡ 0 = ap length (sym none) in
          let more = one-more g k at c.if-has_face.at xs c.loop-face-test.true
          c.loop-face.invariant.at c.loop-face.invariant.same
          (omega (arith, w.at-is, long))
          (ap (λ n. take n xs) w.at-is ∙ sym (append-nil (take at xs))
          ∙ ap (λ ys. take at xs ++ ys) none) in
          record { at = more.at; same = more.same }
    ]
