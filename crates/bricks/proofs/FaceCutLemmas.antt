-- Where the finer samples of one face lie among those of all faces of a brick.
--
-- For the loops over faces, here and in the mesher above: the list of a face whose bit is set begins behind those of
-- the faces before it, and has 33 x 33 samples (`face-cut`), and the next one begins where it ends (`next-cut`).
use Rattle.std.proofs.Common.{◌≡◌, ℕ, zero, suc, ◌+◌, ◌-◌, ◌/◌, ◌%◌, ◌^◌, ◌<◌, ◌≤◌, ◌++◌, List, [], ℤ, true, false, drop, get_or, length, take, length-append, refl, sym, ap, ◌∙◌, arith}
use Rattle.std.specs.Prelude.{◌==◌, flat_map}
use Rattle.std.proofs.Math.Nat.{zero-div}
use Rattle.std.proofs.lemmas.Bool.{false≢true}
use Rattle.lattice.specs.declared.node.Node.{Node}
use Rattle.lattice.specs.declared.point.Face.{Face}
use Rattle.lattice.specs.declared.point.Face.TheVariants.{XLow}
use Rattle.lattice.specs.Face.{faces}
use Rattle.terrain.specs.Blocks.{face_samples}
use Rattle.terrain.specs.Cells.{is_set}
use Rattle.terrain.specs.Samples.{Field}
use Rattle.bricks.specs.Brick.{face_bit, over_rim}
use Rattle.bricks.proofs.BrickLemmas.{cut-out, faces-more, faces-split, length-face, rim_part, rim_part-set}

-- where a face's samples lie
pub record IsCut (at : ℕ) (xs face : List ℤ) : Type 0 where
  pub room : at + 1089 ≤ length xs
  pub is : take (at + 1089 - at) (drop at xs) ≡ face

-- the samples of a face whose bit is set lie behind those of the faces before it
pub face-cut : (rim : ℕ) (n : Node) (s : Field) (k at : ℕ) (xs : List ℤ) → k < 6
    → is_set rim (face_bit (get_or faces k XLow)) ≡ true
    → xs ≡ over_rim rim (face_samples s n)
    → at ≡ length (flat_map (rim_part rim (face_samples s n)) (take k faces))
    → IsCut at xs (face_samples s n (get_or faces k XLow))
face-cut rim n s k at xs k_in on are here =
    let f : Face → List ℤ = face_samples s n in
    let g : Face → List ℤ = rim_part rim f in
    let face : Face = get_or faces k XLow in
    let ours : f face ≡ g face = rim_part-set rim f face on in
    let long : length (g face) ≡ 1089 = ap length (sym ours) ∙ length-face s n face in
    let front : List ℤ = flat_map g (take k faces) in
    let rest : List ℤ = flat_map g (drop (k + 1) faces) in
    let split : xs ≡ front ++ (g face ++ rest) = are ∙ faces-split g k k_in in
    record {
      room = omega (
        arith,
        ap length split ∙ length-append front (g face ++ rest),
        length-append (g face) rest,
        long,
        here,
      );
      is = cut-out xs front (g face) rest at 1089 split here long ∙ sym ours;
    }

-- where the samples of the next face begin
pub next-cut : (rim : ℕ) (n : Node) (s : Field) (k at now : ℕ) → k < 6
    → at ≡ length (flat_map (rim_part rim (face_samples s n)) (take k faces))
    → now ≡ at + length (rim_part rim (face_samples s n) (get_or faces k XLow))
    → now ≡ length (flat_map (rim_part rim (face_samples s n)) (take (k + 1) faces))
next-cut rim n s k at now k_in here more =
    let g : Face → List ℤ = rim_part rim (face_samples s n) in
    let front : List ℤ = flat_map g (take k faces) in
    let face : List ℤ = g (get_or faces k XLow) in
    let all : front ++ face ≡ flat_map g (take (k + 1) faces) =
    faces-more g [] front (front ++ face) k k_in refl refl in
    omega (arith, more, here, length-append front face, ap length all)

-- a face whose bit is set is one of a leaf of level 1 or more
pub level-some : (level rim bit : ℕ) → (level ≡ 0 → rim ≡ 0) → is_set rim bit ≡ true → 1 ≤ level
level-some zero rim bit none on =
    let clear : is_set rim bit ≡ false =
    ap (λ r. r / 2 ^ bit % 2 == 1) (none refl)
    ∙ ap (λ q. q % 2 == 1) (zero-div (2 ^ bit)) in
    absurd (false≢true (sym clear ∙ on))
level-some (suc level) rim bit none on = omega arith
