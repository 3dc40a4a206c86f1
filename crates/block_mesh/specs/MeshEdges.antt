-- Edges of a mesh, as they are kept until their keys are made. This project's rule.
use Rattle.std.specs.Prelude.{◌==◌, ℕ, ◌+◌, ◌*◌, ◌/◌, ◌%◌, ◌<◌, pos, if◌then◌else◌, slice_index_or}
use Rattle.lattice.specs.declared.key.Key.{Key}
use Rattle.lattice.specs.declared.node.TheConstants.{CELLS}
use Rattle.lattice.specs.declared.point.Axis.{Axis}
use Rattle.lattice.specs.declared.point.Axis.TheVariants.{X, Y, Z}
use Rattle.lattice.specs.declared.point.Point.{Point}
use Rattle.terrain.specs.Blocks.{Brick}
use Rattle.bricks.specs.Slots.{point_step}
use Rattle.lattice.specs.Point.{moved}
use Rattle.lattice.specs.Steps.{AreAtMost}
use Rattle.vertex_places.specs.declared.leaf_edge.LeafEdge.{LeafEdge}
use Rattle.vertex_places.specs.LeafEdges.{edge_at, key_of}
use Rattle.block_mesh.specs.declared.mesh_edge.MeshEdge.{MeshEdge}
use Rattle.block_mesh.specs.declared.mesh_edge.MeshEdge.TheVariants.{Coarse, Fine}
use Rattle.block_mesh.specs.declared.builder.TheConstants.{EDGES}

-- the point of a leaf at a slot among its points: the one whose `point_slot` it is
abbrev pub point_at_slot : ℕ → Point
point_at_slot slot = record {
  z = slot / ((CELLS + 1) * (CELLS + 1));
  y = slot / (CELLS + 1) % (CELLS + 1);
  x = slot % (CELLS + 1);
}

-- the axis of the edge of a leaf's cells at a slot: each point has three in a row
abbrev pub axis_at_slot : ℕ → Axis
axis_at_slot slot = if slot % 3 == 0 then X else (if slot % 3 == 1 then Y else Z)

-- the edge of a leaf's cells at a slot, the one whose `edge_slot` it is, with a brick's samples at its ends
abbrev pub edge_at_slot : Brick → ℕ → LeafEdge
edge_at_slot b slot =
    edge_at b.node.level (point_at_slot (slot / 3)) (axis_at_slot slot)
    (slice_index_or b.samples (slot / 3) (pos 0))
    (slice_index_or b.samples (slot / 3 + point_step (axis_at_slot slot)) (pos 0))

-- an edge of a mesh of a brick's leaf, with the samples at its ends
abbrev pub leaf_edge_of : Brick → MeshEdge → LeafEdge
leaf_edge_of b (Coarse slot) = edge_at_slot b slot
leaf_edge_of b (Fine edge) = edge

-- the key of such an edge
abbrev pub mesh_key : Brick → MeshEdge → Key
mesh_key b e = key_of b.node (leaf_edge_of b e)

-- the key of the edge of a leaf's cells at a slot
abbrev pub key_at_slot : Brick → ℕ → Key
key_at_slot b slot = key_of b.node (edge_at_slot b slot)

-- a slot is that of an edge which ends in the leaf
pub record IsEdgeSlot (slot : ℕ) : Type 0 where
  pub within : slot < EDGES
  pub end : AreAtMost CELLS (moved (axis_at_slot slot) 1 (point_at_slot (slot / 3)))
