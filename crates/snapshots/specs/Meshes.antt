-- The meshes that a frame itself has. This project's rule.
use Rattle.std.specs.Prelude.{List, [], ◌∷◌, Option, None, Some, map}
use Rattle.std.specs.List.{flat_map}
use Rattle.lattice.specs.Node.{nodes}
use Rattle.terrain.specs.Blocks.{Mesh}
use Rattle.block_mesh.specs.Done.{DoneState}
use Rattle.block_mesh.specs.Nets.{listed_key}
use Rattle.node_tables.specs.NodeSlots.{item_at}
use Rattle.snapshots.specs.Frame.{FrameState}

-- the mesh that a block's lists say: its leaf, its triangles by their keys, its keys and their positions
abbrev pub block_mesh_of : DoneState → Mesh
block_mesh_of done = record {
  leaf = done.brick.node;
  triangles = map (map (listed_key done.mesh.keys)) done.mesh.triangles;
  keys = done.mesh.keys;
  positions = done.mesh.positions;
}

-- the mesh of what a slot has, if it has anything
abbrev pub slot_meshes : Option DoneState → List Mesh
slot_meshes None = []
slot_meshes (Some done) = block_mesh_of done ∷ []

-- the meshes of the blocks that a frame has in its slots, in the order of nodes
unfoldable pub meshes_of : FrameState → List Mesh
meshes_of frame = flat_map (λ n. slot_meshes (item_at frame.blocks n)) (nodes frame.blocks.depth)
