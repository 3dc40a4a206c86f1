-- Edges of a leaf's cells by their slots.
--
-- For `mesh_edge.rt` and the builder's `add_coarse`. A slot tells its point and its axis by quotients and remainders
-- (`slot-of_edge`). Different edges have different slots, so an edge is the one at its slot (`slot-tells`), and has the
-- key of that one (`slot_key`).
use Rattle.std.proofs.Common.{◌≡◌, ℕ, zero, suc, ◌/◌, ◌%◌, ◌<◌, ◌==◌, if◌then◌else◌, refl, arith}
use Rattle.lattice.specs.declared.point.Axis.{Axis}
use Rattle.lattice.specs.declared.point.Axis.TheVariants.{X, Y, Z}
use Rattle.lattice.specs.declared.point.Point.{Point}
use Rattle.lattice.specs.Steps.{AreAtMost, key_at}
use Rattle.terrain.specs.Blocks.{Brick}
use Rattle.bricks.specs.Slots.{point_slot}
use Rattle.vertex_places.specs.LeafEdges.{key_of}
use Rattle.block_mesh.specs.KeyTable.{edge_slot}
use Rattle.block_mesh.specs.MeshEdges.{axis_at_slot, edge_at_slot, point_at_slot}
use Rattle.block_mesh.proofs.KeyTableLemmas.{slot-from}

-- the slot of the point at a slot
pub slot-of_point : (slot : ℕ) → point_slot (point_at_slot slot) ≡ slot
slot-of_point slot = omega arith

-- the slot of the edge at a slot
pub slot-of_edge : (slot : ℕ) → edge_slot (point_at_slot (slot / 3)) (axis_at_slot slot) ≡ slot
slot-of_edge slot = by (slot % 3) refl
  where
    by : (rest : ℕ) → rest ≡ slot % 3
        → edge_slot (point_at_slot (slot / 3))
        (if rest == 0 then X else (if rest == 1 then Y else Z)) ≡ slot
    by zero is = omega (arith, is, slot-of_point (slot / 3))
    by (suc zero) is = omega (arith, is, slot-of_point (slot / 3))
    by (suc (suc zero)) is = omega (arith, is, slot-of_point (slot / 3))
    by (suc (suc (suc rest))) is = absurd (omega (arith, is))

-- the point at a slot of the table is one of the leaf
pub slot-within : (slot : ℕ) → slot < 14739 → AreAtMost 16 (point_at_slot (slot / 3))
slot-within slot within = record { z = omega arith; y = omega arith; x = omega arith }

-- an edge of a leaf's cells has a slot of the table
slot-below : (at : Point) (axis : Axis) → AreAtMost 16 at → edge_slot at axis < 14739
slot-below at X within = omega (arith, within.z, within.y, within.x)
slot-below at Y within = omega (arith, within.z, within.y, within.x)
slot-below at Z within = omega (arith, within.z, within.y, within.x)

-- the slot of an edge tells where it begins, and its axis
pub slot-tells : (at : Point) (axis : Axis) → AreAtMost 16 at
    → (point_at_slot (edge_slot at axis / 3) ≡ at) × (axis_at_slot (edge_slot at axis) ≡ axis)
slot-tells at axis within =
    let slot = edge_slot at axis in
    slot-from (point_at_slot (slot / 3)) at (axis_at_slot slot) axis
    (slot-within slot (slot-below at axis within)) within (slot-of_edge slot)

-- the edge at the slot of an edge has its key
pub slot_key : (b : Brick) (at : Point) (axis : Axis) → AreAtMost 16 at
    → key_of b.node (edge_at_slot b (edge_slot at axis)) ≡ key_at b.node.level b.node at axis
slot_key b at axis within =
    let tells = slot-tells at axis within in
    λ i. key_at b.node.level b.node (tells.0 i) (tells.1 i)
