-- What is copied out of a frame and of a world's changes.
-- Source: this project's rule.
use Rattle.std.specs.Prelude.{◌≡◌, ◌↔◌, ◌<◌, ◌≤◌, ℕ, List, length}
use Rattle.lattice.specs.declared.key.Key.{Key}
use Rattle.lattice.specs.declared.node.Node.{Node}
use Rattle.lattice.specs.declared.point.Pos.{Pos}
use Rattle.lattice.specs.Node.{low_corner}
use Rattle.surface_normals.specs.Normals.{normal_of}
use Rattle.terrain.specs.History.{sample}
use Rattle.terrain.specs.Levels.{IsLeaf, levels}
use Rattle.block_mesh.specs.Mesh.{indices_of}
use Rattle.snapshots.specs.Frame.{FrameState, mesh_after}
use Rattle.terra_c.specs.declared.shapes.TerraBlock.{TerraBlock}
use Rattle.terra_c.specs.declared.shapes.TerraFloats.{TerraFloats}
use Rattle.terra_c.specs.declared.shapes.TerraNode.{TerraNode}
use Rattle.terra_c.specs.declared.shapes.TerraNormal.{TerraNormal}
use Rattle.terra_c.specs.declared.shapes.TerraTriangle.{TerraTriangle}
use Rattle.terra_c.specs.declared.shapes.TerraTriangle16.{TerraTriangle16}
use Rattle.terra_c.specs.declared.shapes.TerraVertex.{TerraVertex}
use Rattle.terra_c.specs.declared.status.TheConstants.{DONE, NOT_A_LEAF, NO_ROOM, TOO_LARGE}
use Rattle.terra_c.specs.Shapes.{IsCopy, c_floats, c_node, c_normal, c_point, c_triangle, c_triangle16, c_vertex}

-- a node is a leaf of a frame
abbrev pub IsLeafIn : FrameState → Node → Type 0
IsLeafIn frame n = IsLeaf frame.settings.depth (levels frame.settings frame.events) n

-- the positions and the triangles of a leaf's mesh: the one from scratch of the frame's journal
abbrev pub positions_in : FrameState → Node → List Pos
positions_in frame n = (mesh_after frame.settings frame.events n).positions

abbrev pub triangles_in : FrameState → Node → List (List ℕ)
triangles_in frame n =
    let m = mesh_after frame.settings frame.events n in indices_of m.keys m.triangles

-- the keys of a leaf's vertices, in their order
abbrev pub mesh_keys_in : FrameState → Node → List Key
mesh_keys_in frame n = (mesh_after frame.settings frame.events n).keys

-- the normal of a key by the field of a frame's journal, as C sees it
unfoldable pub normal_in : FrameState → Key → TerraNormal
normal_in frame key =
    c_normal (normal_of frame.settings.depth (sample frame.settings frame.events) key)

-- a block is measured: how many vertices and triangles the mesh has, and its low corner
pub record Measures (frame : FrameState) (n : Node) (block block' : TerraBlock) (status : ℕ)
    : Type 0 where
  pub done : (status ≡ DONE) ↔ IsLeafIn frame n
  pub not_a_leaf : (status ≡ NOT_A_LEAF) ↔ (IsLeafIn frame n → ⊥)
  pub vertices : status ≡ DONE → block'.vertices ≡ length (positions_in frame n)
  pub triangles : status ≡ DONE → block'.triangles ≡ length (triangles_in frame n)
  pub origin : status ≡ DONE → block'.origin ≡ c_point (low_corner n)
  pub others : (status ≡ DONE → ⊥) → block' ≡ block

-- a list of a leaf's mesh is copied into room, if it is enough; room is as it was where it isn't
pub record Copies (A B : Type 0) (shown : A → B) (items : List A) (frame : FrameState)
    (n : Node) (room room' : List B) (status : ℕ) : Type 0 where
  pub done : (status ≡ DONE) ↔ (IsLeafIn frame n × (length items ≤ length room))
  pub not_a_leaf : (status ≡ NOT_A_LEAF) ↔ (IsLeafIn frame n → ⊥)
  pub no_room : (status ≡ NO_ROOM) ↔ (IsLeafIn frame n × (length room < length items))
  pub copied : status ≡ DONE → IsCopy A B shown items room room'
  pub others : (status ≡ DONE → ⊥) → room' ≡ room

abbrev pub CopiesVertices : FrameState → Node → List TerraVertex → List TerraVertex → ℕ → Type 0
CopiesVertices frame n = Copies Pos TerraVertex c_vertex (positions_in frame n) frame n

-- the same of positions as floats
abbrev pub CopiesFloats : FrameState → Node → List TerraFloats → List TerraFloats → ℕ → Type 0
CopiesFloats frame n = Copies Pos TerraFloats c_floats (positions_in frame n) frame n

-- the same of normals, one for each vertex and in their order
abbrev pub CopiesNormals : FrameState → Node → List TerraNormal → List TerraNormal → ℕ → Type 0
CopiesNormals frame n = Copies Key TerraNormal (normal_in frame) (mesh_keys_in frame n) frame n

-- the same of triangles
pub record CopiesTriangles (frame : FrameState) (n : Node) (room room' : List TerraTriangle)
    (status : ℕ) : Type 0 where
  pub copies : Copies (List ℕ) TerraTriangle c_triangle (triangles_in frame n) frame n
      room room' status

-- triangles are copied with indices of 16 bits, if the block has at most 65,536 vertices
pub record CopiesTriangles16 (frame : FrameState) (n : Node) (room room' : List TerraTriangle16)
    (status : ℕ) : Type 0 where
  pub too_large : (status ≡ TOO_LARGE)
      ↔ (IsLeafIn frame n × (65536 < length (positions_in frame n)))
  pub copies : (status ≡ TOO_LARGE → ⊥) → Copies (List ℕ) TerraTriangle16 c_triangle16
      (triangles_in frame n) frame n room room' status
  pub others : status ≡ TOO_LARGE → room' ≡ room

-- nodes are counted, and copied into room, if it is enough; room is as it was where it isn't
pub record CopiesNodes (nodes : List Node) (room room' : List TerraNode) (count status : ℕ)
    : Type 0 where
  pub counted : count ≡ length nodes
  pub done : (status ≡ DONE) ↔ (length nodes ≤ length room)
  pub no_room : (status ≡ NO_ROOM) ↔ (length room < length nodes)
  pub copied : status ≡ DONE → IsCopy Node TerraNode c_node nodes room room'
  pub others : (status ≡ DONE → ⊥) → room' ≡ room
