-- The points on a leaf's face by their steps, and the samples at both ends of a finer key.
--
-- For `face_steps` and `fine_index` of the builder. A point of a face is the node's low corner, moved across the face
-- and along its two axes (`on_face`); by steps of one size it is the same, face by face (`face_steps-at`), and the nine
-- points of a square are such points, half a cell apart (`fine_point-on`). So the finer sample of a face by its row and
-- its place there is that of its point (`face_samples-at`), the far end of an edge lies 1 or 33 samples further
-- (`far-sample`), and both are the ends of the key (`fine-samples`).
use Rattle.std.proofs.Common.{◌≡◌, ℕ, suc, ◌+◌, ◌-◌, ◌*◌, ◌/◌, ◌%◌, ◌^◌, ◌<◌, ◌≤◌, true, false, List, get_or, ℤ, pos, refl, sym, ap, ◌∙◌, arith}
use Rattle.std.proofs.Math.Nat.{pow-suc}
use Rattle.cells.specs.declared.edges.Along.{Along}
use Rattle.cells.specs.declared.edges.Along.TheVariants.{Higher, Lower}
use Rattle.cells.specs.Edges.{face_axis}
use Rattle.lattice.specs.declared.node.Node.{Node}
use Rattle.lattice.specs.declared.point.Face.{Face}
use Rattle.lattice.specs.declared.point.Face.TheVariants.{XLow, XHigh, YLow, YHigh, ZLow, ZHigh}
use Rattle.lattice.specs.declared.point.Point.{Point}
use Rattle.lattice.specs.Face.{axis_across, axis_along, higher, is_high, lower}
use Rattle.lattice.specs.Node.{low_corner, node_side}
use Rattle.lattice.specs.Point.{moved}
use Rattle.terrain.specs.Samples.{Field}
use Rattle.terrain.specs.Blocks.{Brick, face_samples, square_corner}
use Rattle.bricks.specs.Brick.{HasSamples, fine_line}
use Rattle.bricks.specs.Line.{line_point, line_samples}
use Rattle.terrain.specs.Cells.{fine_point}
use Rattle.block_mesh.specs.LeafCells.{IsFace, EndsOnFace}
use Rattle.lattice.specs.Steps.{AreAtMost, face_steps, key_at, point_at}
use Rattle.bricks.proofs.BrickLemmas.{face_samples-rows, length-line}
use Rattle.lattice.proofs.RowLemmas.{get_or-rows, get_or-singles}
use Rattle.vertex_places.proofs.LeafKeyLemmas.{far_end-key_at, fine_side}
use Rattle.vertex_places.specs.LeafEdges.{AreEndSamples}

-- a point so far along a leaf's face
abbrev pub on_face : Node → Face → ℕ → ℕ → Point
on_face n face higher_by lower_by =
    let off : ℕ = elim (is_high face) [ true ↦ node_side n.level | false ↦ 0 ] in
    moved (axis_along face lower) lower_by
    (moved (axis_along face higher) higher_by (moved (axis_across face) off (low_corner n)))

-- points by their coordinates
same3 : (p q : Point) → p.z ≡ q.z → p.y ≡ q.y → p.x ≡ q.x → p ≡ q
same3 p q z y x = λ i. record { z = z i; y = y i; x = x i }

-- the point by its steps
pub face_steps-at : (n : Node) (level count : ℕ) → node_side n.level ≡ 2 ^ level * count
    → (v u : ℕ) (face : Face) → point_at level n (face_steps face count v u)
    ≡ on_face n face (2 ^ level * v) (2 ^ level * u)
face_steps-at n level count long v u XLow = same3 _ _ (omega arith) (omega arith) (omega arith)
face_steps-at n level count long v u XHigh =
    same3 _ _ (omega arith) (omega arith) (omega (arith, long))
face_steps-at n level count long v u YLow = same3 _ _ (omega arith) (omega arith) (omega arith)
face_steps-at n level count long v u YHigh =
    same3 _ _ (omega arith) (omega (arith, long)) (omega arith)
face_steps-at n level count long v u ZLow = same3 _ _ (omega arith) (omega arith) (omega arith)
face_steps-at n level count long v u ZHigh =
    same3 _ _ (omega (arith, long)) (omega arith) (omega arith)

-- a point of a square by half steps
half_steps : (low half level_side v b : ℕ) → level_side ≡ 2 * half
    → low + level_side * v + half * b ≡ low + half * (2 * v + b)
half_steps low half level_side v b twice =
    let turned : level_side * v ≡ 2 * half * v = ap (λ n. n * v) twice in omega (arith, turned)

-- a cell is two of the level below
pub half-twice : (level : ℕ) → 1 ≤ level → 2 ^ level ≡ 2 * 2 ^ (level - 1)
half-twice level some =
    ap (λ l. 2 ^ l) (let e : level ≡ suc (level - 1) = omega arith in e)
    ∙ pow-suc 2 (level - 1) ∙ omega arith

-- the same with the level's own cells
along-half : (level low v b : ℕ) → 1 ≤ level → low + 2 ^ level * v + 2 ^ (level - 1) * b
    ≡ low + 2 ^ (level - 1) * (2 * v + b)
along-half level low v b some =
    half_steps low (2 ^ (level - 1)) (2 ^ level) v b (half-twice level some)

-- where a finer point of a square is on its face
pub fine_point-on : (n : Node) (v u point : ℕ) → 1 ≤ n.level → (face : Face)
    → fine_point n.level face (square_corner n face v u) point
    ≡ on_face n face (2 ^ (n.level - 1) * (2 * v + point / 3))
    (2 ^ (n.level - 1) * (2 * u + point % 3))
fine_point-on n v u point some XLow =
    same3 _ _ (along-half n.level _ v (point / 3) some) (along-half n.level _ u (point % 3) some)
    refl
fine_point-on n v u point some XHigh =
    same3 _ _ (along-half n.level _ v (point / 3) some) (along-half n.level _ u (point % 3) some)
    refl
fine_point-on n v u point some YLow =
    same3 _ _ (along-half n.level _ v (point / 3) some) refl
    (along-half n.level _ u (point % 3) some)
fine_point-on n v u point some YHigh =
    same3 _ _ (along-half n.level _ v (point / 3) some) refl
    (along-half n.level _ u (point % 3) some)
fine_point-on n v u point some ZLow =
    same3 _ _ refl (along-half n.level _ v (point / 3) some)
    (along-half n.level _ u (point % 3) some)
fine_point-on n v u point some ZHigh =
    same3 _ _ refl (along-half n.level _ v (point / 3) some)
    (along-half n.level _ u (point % 3) some)

-- ---- the finer samples of a face

-- a leaf's side is 32 half cells, and 16 whole ones
pub half_side : (n : Node) → 1 ≤ n.level → node_side n.level ≡ 2 ^ (n.level - 1) * 32
half_side n some = fine_side n some ∙ omega arith

-- a node's side is 16 cells of its level
pub whole_side : (n : Node) → node_side n.level ≡ 2 ^ n.level * 16
whole_side n = omega arith

-- the finer sample at a place of a face is that of its point
pub face_samples-at : (s : Field) (n : Node) (face : Face) (v u : ℕ) (d : ℤ) → 1 ≤ n.level
    → v < 33 → u < 33 → get_or (face_samples s n face) (v * 33 + u) d
    ≡ s (point_at (n.level - 1) n (face_steps face 32 v u))
face_samples-at s n face v u d some v_in u_in =
    let row : ℕ → List ℤ = λ k. line_samples s (fine_line n face k) in
    ap (λ xs. get_or xs (v * 33 + u) d) (face_samples-rows s n face)
    ∙ get_or-rows 33 33 row (λ k k_in. length-line s (fine_line n face k)) v u d v_in u_in
    ∙ get_or-singles 33 (λ k. s (line_point (fine_line n face v) k)) u d u_in
    ∙ ap s (sym (face_steps-at n (n.level - 1) 32 (half_side n some) v u face))

-- where the far end of an edge on a face has its sample, behind that of the near end
abbrev pub slot_step : Along → ℕ
slot_step Lower = 1
slot_step Higher = 33

-- a step along an axis of a face
pub face_steps-lower : (face : Face) (side v u : ℕ)
    → face_steps face side v (u + 1) ≡ moved (axis_along face lower) 1 (face_steps face side v u)
face_steps-lower XLow side v u = same3 _ _ refl (omega arith) refl
face_steps-lower XHigh side v u = same3 _ _ refl (omega arith) refl
face_steps-lower YLow side v u = same3 _ _ refl refl (omega arith)
face_steps-lower YHigh side v u = same3 _ _ refl refl (omega arith)
face_steps-lower ZLow side v u = same3 _ _ refl refl (omega arith)
face_steps-lower ZHigh side v u = same3 _ _ refl refl (omega arith)

-- one step further along the higher axis of a face
pub face_steps-higher : (face : Face) (side v u : ℕ)
    → face_steps face side (v + 1) u ≡ moved (axis_along face higher) 1 (face_steps face side v u)
face_steps-higher XLow side v u = same3 _ _ (omega arith) refl refl
face_steps-higher XHigh side v u = same3 _ _ (omega arith) refl refl
face_steps-higher YLow side v u = same3 _ _ (omega arith) refl refl
face_steps-higher YHigh side v u = same3 _ _ (omega arith) refl refl
face_steps-higher ZLow side v u = same3 _ _ refl (omega arith) refl
face_steps-higher ZHigh side v u = same3 _ _ refl (omega arith) refl

-- the sample at the far end of an edge on a face
pub far-sample : (s : Field) (n : Node) (face : Face) (v u : ℕ) (along : Along) (d : ℤ)
    → 1 ≤ n.level → EndsOnFace v u along
    → get_or (face_samples s n face) (v * 33 + u + slot_step along) d
    ≡ s (point_at (n.level - 1) n (moved (axis_along face (face_axis along)) 1
    (face_steps face 32 v u)))
far-sample s n face v u Lower d some ends =
    let here : v * 33 + u + 1 ≡ v * 33 + (u + 1) = omega arith in
    ap (λ k. get_or (face_samples s n face) k d) here
    ∙ face_samples-at s n face v (u + 1) d some (omega (arith, ends)) (omega (arith, ends))
    ∙ ap (λ p. s (point_at (n.level - 1) n p)) (face_steps-lower face 32 v u)
far-sample s n face v u Higher d some ends =
    let here : v * 33 + u + 33 ≡ (v + 1) * 33 + u = omega arith in
    ap (λ k. get_or (face_samples s n face) k d) here
    ∙ face_samples-at s n face (v + 1) u d some (omega (arith, ends)) (omega (arith, ends))
    ∙ ap (λ p. s (point_at (n.level - 1) n p)) (face_steps-higher face 32 v u)

-- an edge on a face begins and ends on the face's points
pub ends-near : (v u : ℕ) (along : Along) → EndsOnFace v u along → (v < 33) × (u < 33)
ends-near v u Lower ends = (omega (arith, ends), omega (arith, ends))
ends-near v u Higher ends = (omega (arith, ends), omega (arith, ends))

-- the key of such an edge is one of the leaf's
pub ends-within : (face : Face) (v u : ℕ) (along : Along) → EndsOnFace v u along
    → AreAtMost 32 (moved (axis_along face (face_axis along)) 1 (face_steps face 32 v u))
ends-within XLow v u Lower ends = record {
  z = omega (arith, ends);
  y = omega (arith, ends);
  x = omega arith;
}
ends-within XHigh v u Lower ends = record {
  z = omega (arith, ends);
  y = omega (arith, ends);
  x = omega arith;
}
ends-within YLow v u Lower ends = record {
  z = omega (arith, ends);
  y = omega arith;
  x = omega (arith, ends);
}
ends-within YHigh v u Lower ends = record {
  z = omega (arith, ends);
  y = omega arith;
  x = omega (arith, ends);
}
ends-within ZLow v u Lower ends = record {
  z = omega arith;
  y = omega (arith, ends);
  x = omega (arith, ends);
}
ends-within ZHigh v u Lower ends = record {
  z = omega arith;
  y = omega (arith, ends);
  x = omega (arith, ends);
}
ends-within XLow v u Higher ends = record {
  z = omega (arith, ends);
  y = omega (arith, ends);
  x = omega arith;
}
ends-within XHigh v u Higher ends = record {
  z = omega (arith, ends);
  y = omega (arith, ends);
  x = omega arith;
}
ends-within YLow v u Higher ends = record {
  z = omega (arith, ends);
  y = omega arith;
  x = omega (arith, ends);
}
ends-within YHigh v u Higher ends = record {
  z = omega (arith, ends);
  y = omega arith;
  x = omega (arith, ends);
}
ends-within ZLow v u Higher ends = record {
  z = omega arith;
  y = omega (arith, ends);
  x = omega (arith, ends);
}
ends-within ZHigh v u Higher ends = record {
  z = omega arith;
  y = omega (arith, ends);
  x = omega (arith, ends);
}

-- the samples at both ends of its key
pub fine-samples : (b : Brick) (face : Face) (fines : List ℤ) (v u : ℕ) (along : Along)
    (near far : ℤ) → IsFace b face fines → EndsOnFace v u along
    → near ≡ get_or fines (v * 33 + u) (pos 0)
    → far ≡ get_or fines (v * 33 + u + slot_step along) (pos 0) → (s : Field) → HasSamples s b
    → AreEndSamples s (key_at (b.node.level - 1) b.node (face_steps face 32 v u)
    (axis_along face (face_axis along))) near far
fine-samples b face fines v u along near far is ends near_is far_is s has =
    let n = b.node in
    let within = ends-near v u along ends in
    record {
      near_is = near_is ∙ ap (λ xs. get_or xs (v * 33 + u) (pos 0)) (is.are s has)
          ∙ face_samples-at s n face v u (pos 0) is.level within.0 within.1;
      far_is = far_is
          ∙ ap (λ xs. get_or xs (v * 33 + u + slot_step along) (pos 0)) (is.are s has)
          ∙ far-sample s n face v u along (pos 0) is.level ends
          ∙ ap s (sym (far_end-key_at (n.level - 1) n (face_steps face 32 v u)
          (axis_along face (face_axis along))));
    }
