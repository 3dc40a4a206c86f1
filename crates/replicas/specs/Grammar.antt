-- The bytes of a wire: a head, and behind it patches. Each value has one spelling, and the bytes of a value are these,
-- whoever writes or reads them.
-- Source: this project's rule.
use Rattle.std.specs.Prelude.{ℕ, List, [], ◌∷◌, ◌++◌, codes, flat_map, length}
use Rattle.std.specs.Int.{w16, w32, to_le_bytes}
use Rattle.std.specs.List.{zip}
use Rattle.lattice.specs.declared.key.Key.{Key}
use Rattle.lattice.specs.declared.node.Node.{Node}
use Rattle.lattice.specs.declared.point.Axis.{Axis}
use Rattle.lattice.specs.declared.point.Axis.TheVariants.{X, Y, Z}
use Rattle.lattice.specs.declared.point.Point.{Point}
use Rattle.lattice.specs.declared.point.Pos.{Pos}
use Rattle.lattice.specs.declared.settings.Settings.{Settings}
use Rattle.terrain.specs.declared.brush.Brush.TheVariants.{Cuboid, Ball, Ground, Smooth}
use Rattle.terrain.specs.declared.brush.Mode.{Mode}
use Rattle.terrain.specs.declared.brush.Mode.TheVariants.{Fill, Carve}
use Rattle.terrain.specs.declared.event.Event.{Event}
use Rattle.terrain.specs.declared.event.Event.TheVariants.{Edit, Camera, Away, Undo}
use Rattle.terrain.specs.MeshLists.{MeshLists}

-- ---- numbers, points and nodes

-- a number in two bytes, and in four: the lowest byte first
unfoldable pub two : ℕ → List ℕ
two n = to_le_bytes w16 n

unfoldable pub four : ℕ → List ℕ
four n = to_le_bytes w32 n

-- a point: x, y and z
unfoldable pub point_bytes : Point → List ℕ
point_bytes p = two p.x ++ two p.y ++ two p.z

-- a node: its level, and i, j and k
unfoldable pub node_bytes : Node → List ℕ
node_bytes n = n.level ∷ two n.i ++ two n.j ++ two n.k

-- ---- events

-- whether a shaping brush fills or carves
abbrev pub mode_byte : Mode → ℕ
mode_byte Fill = 0
mode_byte Carve = 1

-- the tag of an event says which of these it is, and which fields follow
abbrev pub event_tag : Event → ℕ
event_tag (Edit (Cuboid mode lo hi)) = 0
event_tag (Edit (Ball mode at r)) = 1
event_tag (Edit (Ground mode h)) = 2
event_tag (Edit (Smooth lo hi)) = 3
event_tag (Camera view at) = 4
event_tag (Away view) = 5
event_tag Undo = 6

-- its fields
unfoldable pub event_fields : Event → List ℕ
event_fields (Edit (Cuboid mode lo hi)) = mode_byte mode ∷ point_bytes lo ++ point_bytes hi
event_fields (Edit (Ball mode at r)) = mode_byte mode ∷ point_bytes at ++ two r
event_fields (Edit (Ground mode h)) = mode_byte mode ∷ two h
event_fields (Edit (Smooth lo hi)) = point_bytes lo ++ point_bytes hi
event_fields (Camera view at) = view ∷ point_bytes at
event_fields (Away view) = view ∷ []
event_fields Undo = []

-- an event
abbrev pub event_bytes : Event → List ℕ
event_bytes event = event_tag event ∷ event_fields event

-- ---- blocks

-- the axis of a key
abbrev pub axis_byte : Axis → ℕ
axis_byte X = 0
axis_byte Y = 1
axis_byte Z = 2

-- a key and where its vertex lies: the key's level, its axis and its point, and the position
unfoldable pub vertex_bytes : Key × Pos → List ℕ
vertex_bytes (key, at) =
    key.level ∷ axis_byte key.axis ∷ point_bytes key.at ++ four at.x ++ four at.y ++ four at.z

-- a triangle: the places of its keys in the block, from 0
unfoldable pub triangle_bytes : List ℕ → List ℕ
triangle_bytes places = flat_map four places

-- a block: the mesh of a node
pub record WireBlock : Type 0 where
  pub node : Node
  pub mesh : MeshLists

-- its node, how many keys and triangles it has, each key with its position, and the triangles
unfoldable pub block_bytes : WireBlock → List ℕ
block_bytes block =
    node_bytes block.node ++ four (length block.mesh.keys) ++ four (length block.mesh.triangles)
    ++ flat_map vertex_bytes (zip block.mesh.keys block.mesh.positions)
    ++ flat_map triangle_bytes block.mesh.triangles

-- ---- patches

-- a patch: how many events there are before it, the events that come next, the nodes that lose their blocks, and the
-- blocks that are put
pub record WirePatch : Type 0 where
  pub base : ℕ
  pub events : List Event
  pub gone : List Node
  pub blocks : List WireBlock

-- the byte with which each patch begins
abbrev pub patch_tag : ℕ
patch_tag = 0x50

-- its tag, its base, and how many events, gone nodes and blocks it has
unfoldable pub counts_bytes : WirePatch → List ℕ
counts_bytes patch =
    patch_tag ∷ four patch.base ++ four (length patch.events) ++ four (length patch.gone)
    ++ four (length patch.blocks)

-- these, and the events, the gone nodes and the blocks
unfoldable pub patch_bytes : WirePatch → List ℕ
patch_bytes patch =
    counts_bytes patch ++ flat_map event_bytes patch.events ++ flat_map node_bytes patch.gone
    ++ flat_map block_bytes patch.blocks

-- ---- the head

-- a text, and the settings of the world
unfoldable pub head_bytes : Settings → List ℕ
head_bytes settings = codes "TERRAPW1" ++ settings.depth ∷ settings.reach ∷ []
