-- A fact on the samples at all points of a leaf's closed cube is one on all samples of its brick.
--
-- For leaves of one sample, and for those of one sign. The points of a leaf and the finer ones on its faces lie in its
-- cube (`leaf-in-cube`, `face-in-cube`): their steps stay within the node's side. So a fact about each sample of the
-- cube is one about all items of the leaf's list (`leaf-all`), of a face's (`face-all`), and of those of the faces that
-- a rim picks (`faces-all`).
use Rattle.std.proofs.Common.{◌≡◌, ℕ, ◌+◌, ◌-◌, ◌*◌, ◌/◌, ◌%◌, ◌^◌, ◌<◌, ◌≤◌, Bool, true, false, List, [], ◌∷◌, ℤ, refl, arith}
use Rattle.std.specs.Prelude.{All, flat_map}
use Rattle.std.proofs.Math.Nat.{mul-le-mul_left}
use Rattle.std.proofs.lemmas.List.Elements.{All-append, All-nil, All-same}
use Rattle.lattice.specs.declared.node.Node.{Node}
use Rattle.lattice.specs.declared.point.Face.{Face}
use Rattle.lattice.specs.declared.point.Face.TheVariants.{XLow, XHigh, YLow, YHigh, ZLow, ZHigh}
use Rattle.lattice.specs.declared.point.Point.{Point}
use Rattle.lattice.specs.Face.{faces}
use Rattle.lattice.specs.Node.{cube, node_side}
use Rattle.lattice.specs.Region.{IsWithin}
use Rattle.lattice.proofs.JoinedLemmas.{All-joined}
use Rattle.lattice.proofs.RowLemmas.{All-singles}
use Rattle.terrain.specs.Blocks.{face_samples, leaf_samples}
use Rattle.terrain.specs.Cells.{is_set}
use Rattle.terrain.specs.Samples.{Field}
use Rattle.bricks.specs.Brick.{face_bit, fine_line, leaf_line, over_rim}
use Rattle.bricks.specs.Line.{line_point, line_samples}
use Rattle.bricks.proofs.BrickLemmas.{face_samples-rows, leaf_samples-rows, rim_part}
use Rattle.bricks.proofs.FaceCutLemmas.{level-some}
use Rattle.bricks.proofs.FaceLemmas.{half-fits}

-- a step of a level's cells stays in a node
in-side : (index level k : ℕ) → k < 17
    → index * node_side level + 2 ^ level * k ≤ (index + 1) * node_side level
in-side index level k k_in =
    let within : k ≤ 16 = omega arith in
    omega (arith, mul-le-mul_left (2 ^ level) within)

-- and one of half a cell
half-in-side : (index level k : ℕ) → 1 ≤ level → k < 33
    → index * node_side level + 2 ^ (level - 1) * k ≤ (index + 1) * node_side level
half-in-side index level k some k_in = omega (arith, half-fits level k some k_in)

-- the points of a leaf lie in its cube
leaf-in-cube : (n : Node) (z y x : ℕ) → z < 17 → y < 17 → x < 17
    → IsWithin (cube n) (line_point (leaf_line n z y) x)
leaf-in-cube n z y x z_in y_in x_in = record {
  z = omega arith;
  z_end = in-side n.k n.level z z_in;
  y = omega arith;
  y_end = in-side n.j n.level y y_in;
  x = omega arith;
  x_end = in-side n.i n.level x x_in;
}

-- so do the finer points on its faces
module _ (n : Node) (some : 1 ≤ n.level) (v u : ℕ) (v_in : v < 33) (u_in : u < 33) where
  -- face by face
  face-in-cube : (face : Face) → IsWithin (cube n) (line_point (fine_line n face v) u)
  face-in-cube XLow = record {
    z = omega arith;
    z_end = half-in-side n.k n.level v some v_in;
    y = omega arith;
    y_end = half-in-side n.j n.level u some u_in;
    x = omega arith;
    x_end = omega arith;
  }
  face-in-cube XHigh = record {
    z = omega arith;
    z_end = half-in-side n.k n.level v some v_in;
    y = omega arith;
    y_end = half-in-side n.j n.level u some u_in;
    x = omega arith;
    x_end = omega arith;
  }
  face-in-cube YLow = record {
    z = omega arith;
    z_end = half-in-side n.k n.level v some v_in;
    y = omega arith;
    y_end = omega arith;
    x = omega arith;
    x_end = half-in-side n.i n.level u some u_in;
  }
  face-in-cube YHigh = record {
    z = omega arith;
    z_end = half-in-side n.k n.level v some v_in;
    y = omega arith;
    y_end = omega arith;
    x = omega arith;
    x_end = half-in-side n.i n.level u some u_in;
  }
  face-in-cube ZLow = record {
    z = omega arith;
    z_end = omega arith;
    y = omega arith;
    y_end = half-in-side n.j n.level v some v_in;
    x = omega arith;
    x_end = half-in-side n.i n.level u some u_in;
  }
  face-in-cube ZHigh = record {
    z = omega arith;
    z_end = omega arith;
    y = omega arith;
    y_end = half-in-side n.j n.level v some v_in;
    x = omega arith;
    x_end = half-in-side n.i n.level u some u_in;
  }

-- what holds of the list of each face whose bit is set holds of these lists one after another
pub over_rim-all : {A : Type 0} (P : A → Type 0) (rim : ℕ) (f : Face → List A)
    → ((face : Face) → is_set rim (face_bit face) ≡ true → All P (f face)) → All P (over_rim rim f)
over_rim-all {A} P rim f each = go faces
  where
    part : (face : Face) (b : Bool) → is_set rim (face_bit face) ≡ b
        → All P (elim b as (λ x. List A) [ true ↦ f face | false ↦ [] ])
    part face true on = each face on
    part face false off = All-nil P

    go : (some : List Face) → All P (flat_map (rim_part rim f) some)
    go [] = All-nil P
    go (face ∷ some) =
        All-append P (rim_part rim f face) (flat_map (rim_part rim f) some)
        (part face (is_set rim (face_bit face)) refl) (go some)

-- what holds of the sample at each point of a leaf's cube
module _ (P : ℤ → Type 0) (s : Field) (n : Node)
    (each : (p : Point) → IsWithin (cube n) p → P (s p)) where
  -- holds of all samples of the leaf
  pub leaf-all : All P (leaf_samples s n)
  leaf-all =
      let line = λ (row : ℕ). leaf_line n (row / 17) (row % 17) in
      All-same P _ _ (leaf_samples-rows s n)
      (All-joined P 289 (λ row. line_samples s (line row)) (λ row row_in.
      All-singles P 17 (λ x. s (line_point (line row) x)) (λ x x_in.
      each _ (leaf-in-cube n (row / 17) (row % 17) x (omega arith) (omega arith) x_in))))

  -- of all finer samples of a face
  pub face-all : 1 ≤ n.level → (face : Face) → All P (face_samples s n face)
  face-all some face =
      All-same P _ _ (face_samples-rows s n face)
      (All-joined P 33 (λ v. line_samples s (fine_line n face v)) (λ v v_in.
      All-singles P 33 (λ u. s (line_point (fine_line n face v) u)) (λ u u_in.
      each _ (face-in-cube n some v u v_in u_in face))))

  -- and of those of the faces whose bits are set in a rim
  pub faces-all : (rim : ℕ) → (n.level ≡ 0 → rim ≡ 0) → All P (over_rim rim (face_samples s n))
  faces-all rim none =
      over_rim-all P rim (face_samples s n) (λ face on.
      face-all (level-some n.level rim (face_bit face) none on) face)
