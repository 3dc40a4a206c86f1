-- The slots of the edges of the level below on a leaf's border.
--
-- For the builder's `fine`. A point on the border has its slot in one of six planes, and where that is, is seen from
-- the slot (`planes`): the number of the plane, then the point's row and its place there, each below 33. So two points
-- with one slot are one point (`border-from`), and two edges with one slot are one edge (`fine-from`). The points of a
-- leaf's face are on its border (`face-border`).
use Rattle.std.proofs.Common.{◌≡◌, ◌==◌, ℕ, ◌+◌, ◌*◌, ◌/◌, ◌%◌, ◌≤◌, Bool, true, false, ◌||◌, cond, inl, inr, refl, sym, ap, ◌∙◌, arith}
use Rattle.std.specs.Prelude.{◌⊎◌}
use Rattle.std.proofs.lemmas.Bool.{eqb-true}
use Rattle.cells.specs.declared.edges.Along.{Along}
use Rattle.cells.specs.Edges.{face_axis}
use Rattle.lattice.specs.declared.point.Axis.{Axis}
use Rattle.lattice.specs.declared.point.Axis.TheVariants.{X, Y, Z}
use Rattle.lattice.specs.declared.point.Face.{Face}
use Rattle.lattice.specs.declared.point.Face.TheVariants.{XLow, XHigh, YLow, YHigh, ZLow, ZHigh}
use Rattle.lattice.specs.declared.point.Point.{Point}
use Rattle.lattice.specs.Face.{axis_along}
use Rattle.lattice.specs.Steps.{AreAtMost, face_steps}
use Rattle.block_mesh.specs.KeyTable.{IsOnBorder, border_slot, fine_slot, plane_slot}
use Rattle.block_mesh.specs.LeafCells.{EndsOnFace}
use Rattle.block_mesh.proofs.FaceStepLemmas.{ends-within}
use Rattle.vertex_places.proofs.LeafKeyLemmas.{AreAtMost-before}

-- ---- points by their slots

-- a slot is that of a point in one of two planes, by its coordinate across these and the two others
record IsInPlane (first across row column slot : ℕ) : Type 0 where
  plane : ℕ
  few : plane ≤ 1
  across_is : across ≡ 32 * plane
  slot_is : slot ≡ ((first + plane) * 33 + row) * 33 + column

-- the plane of a point whose coordinate across it is 0 or 32
in-plane : (first across row column slot : ℕ) → across ≤ 32 → (across % 32 == 0) ≡ true
    → slot ≡ plane_slot (first + across / 32) row column
    → IsInPlane first across row column slot
in-plane first across row column slot within on is =
    let none : across % 32 ≡ 0 = eqb-true (across % 32) 0 on in
    record {
      plane = across / 32;
      few = omega (arith, within);
      across_is = omega (arith, none);
      slot_is = is;
    }

-- the planes of a point on the border
IsInPlanes : Point → Type 0
IsInPlanes p = IsInPlane 0 p.z p.y p.x (border_slot p)
    ⊎ (IsInPlane 2 p.y p.z p.x (border_slot p) ⊎ IsInPlane 4 p.x p.z p.y (border_slot p))

-- a point on the border is in one of its planes, and has its slot there
planes : (p : Point) → IsOnBorder p → IsInPlanes p
unfolding IsInPlanes
planes p is = go (p.z % 32 == 0) (p.y % 32 == 0) refl refl
  where
    in_z : ℕ
    in_z = plane_slot (p.z / 32) p.y p.x

    in_y : ℕ
    in_y = plane_slot (2 + p.y / 32) p.z p.x

    in_x : ℕ
    in_x = plane_slot (4 + p.x / 32) p.z p.y

    go : (a b : Bool) → (p.z % 32 == 0) ≡ a → (p.y % 32 == 0) ≡ b → IsInPlanes p
    go true b z y =
        let first : in_z ≡ plane_slot (0 + p.z / 32) p.y p.x = omega arith in
        inl (in-plane 0 p.z p.y p.x (border_slot p) is.within.z z
        (ap (λ c. cond c in_z (cond (p.y % 32 == 0) in_y in_x)) z ∙ first))
    go false true z y =
        inr (inl (in-plane 2 p.y p.z p.x (border_slot p) is.within.y y
        (ap (λ c. cond c in_z (cond (p.y % 32 == 0) in_y in_x)) z
        ∙ ap (λ c. cond c in_y in_x) y)))
    go false false z y =
        let x : (p.x % 32 == 0) ≡ true =
        sym (ap (λ c. c || (p.y % 32 == 0 || p.x % 32 == 0)) z ∙ ap (λ c. c || p.x % 32 == 0) y)
        ∙ is.side in
        inr (inr (in-plane 4 p.x p.z p.y (border_slot p) is.within.x x
        (ap (λ c. cond c in_z (cond (p.y % 32 == 0) in_y in_x)) z
        ∙ ap (λ c. cond c in_y in_x) y)))

-- two points with one slot
border-from : (p q : Point) → IsOnBorder p → IsOnBorder q → border_slot p ≡ border_slot q → p ≡ q
unfolding IsInPlanes
border-from p q p_in q_in same = go (planes p p_in) (planes q q_in)
  where
    is : p.z ≡ q.z → p.y ≡ q.y → p.x ≡ q.x → p ≡ q
    is z y x = λ i. record { z = z i; y = y i; x = x i }

    within : AreAtMost 32 p × AreAtMost 32 q
    within = (p_in.within, q_in.within)

    go : IsInPlanes p → IsInPlanes q → p ≡ q
    go (inl a) (inl b) = is (omega (arith, a, b, within, same)) (omega (arith, a, b, within, same))
        (omega (arith, a, b, within, same))
    go (inl a) (inr (inl b)) = absurd (omega (arith, a, b, within, same))
    go (inl a) (inr (inr b)) = absurd (omega (arith, a, b, within, same))
    go (inr (inl a)) (inl b) = absurd (omega (arith, a, b, within, same))
    go (inr (inl a)) (inr (inl b)) = is (omega (arith, a, b, within, same))
        (omega (arith, a, b, within, same)) (omega (arith, a, b, within, same))
    go (inr (inl a)) (inr (inr b)) = absurd (omega (arith, a, b, within, same))
    go (inr (inr a)) (inl b) = absurd (omega (arith, a, b, within, same))
    go (inr (inr a)) (inr (inl b)) = absurd (omega (arith, a, b, within, same))
    go (inr (inr a)) (inr (inr b)) = is (omega (arith, a, b, within, same))
        (omega (arith, a, b, within, same)) (omega (arith, a, b, within, same))

-- two edges with one slot
pub fine-from : (p q : Point) (a b : Axis) → IsOnBorder p → IsOnBorder q
    → fine_slot p a ≡ fine_slot q b → (p ≡ q) × (a ≡ b)
fine-from p q X X p_in q_in same = (border-from p q p_in q_in (omega (arith, same)), refl)
fine-from p q X Y p_in q_in same = absurd (omega (arith, same))
fine-from p q X Z p_in q_in same = absurd (omega (arith, same))
fine-from p q Y X p_in q_in same = absurd (omega (arith, same))
fine-from p q Y Y p_in q_in same = (border-from p q p_in q_in (omega (arith, same)), refl)
fine-from p q Y Z p_in q_in same = absurd (omega (arith, same))
fine-from p q Z X p_in q_in same = absurd (omega (arith, same))
fine-from p q Z Y p_in q_in same = absurd (omega (arith, same))
fine-from p q Z Z p_in q_in same = (border-from p q p_in q_in (omega (arith, same)), refl)

-- ---- points of faces

-- the second of three tests passes
second : (a c : Bool) → (a || (true || c)) ≡ true
second true c = refl
second false c = refl

-- the last of three tests passes
third : (a b : Bool) → (a || (b || true)) ≡ true
third true b = refl
third false true = refl
third false false = refl

-- a point of a face is on one of the sides
on-side : (face : Face) (v u : ℕ) → let p = face_steps face 32 v u in
    (p.z % 32 == 0 || (p.y % 32 == 0 || p.x % 32 == 0)) ≡ true
on-side XLow v u = third ((0 + v) % 32 == 0) ((0 + u) % 32 == 0)
on-side XHigh v u = third ((0 + v) % 32 == 0) ((0 + u) % 32 == 0)
on-side YLow v u = second ((0 + v) % 32 == 0) ((0 + u) % 32 == 0)
on-side YHigh v u = second ((0 + v) % 32 == 0) ((0 + u) % 32 == 0)
on-side ZLow v u = refl
on-side ZHigh v u = refl

-- an edge on a face begins on the border
pub face-border : (face : Face) (v u : ℕ) (along : Along) → EndsOnFace v u along
    → IsOnBorder (face_steps face 32 v u)
face-border face v u along ends = record {
  within = AreAtMost-before 32 (axis_along face (face_axis along)) (face_steps face 32 v u)
      (ends-within face v u along ends);
  side = on-side face v u;
}
