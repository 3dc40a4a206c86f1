-- How a wire is read: field by field, each judged when its last byte has come; the first one that is refused gives the
-- fault.
-- Source: this project's rule.
use Rattle.std.specs.Prelude.{ℕ, zero, suc, ◌+◌, ◌-◌, ◌*◌, ◌%◌, ◌^◌, Bool, true, false, ◌&&◌, not, List, [], ◌∷◌, ◌++◌, codes, drop, take, length, map, if◌then◌else◌, nat_le, nat_lt, ◌==◌, Option, None, Some, Result, Ok, Err, slice_get, slice_index}
use Rattle.std.specs.List.{list_all}
use Rattle.std.specs.Option.{is_some, option_map}
use Rattle.std.specs.Str.{bytes_eq}
use Rattle.lattice.specs.declared.key.Key.{Key}
use Rattle.lattice.specs.declared.node.Node.{Node}
use Rattle.lattice.specs.declared.point.Axis.{Axis}
use Rattle.lattice.specs.declared.point.Axis.TheVariants.{X, Y, Z}
use Rattle.lattice.specs.declared.point.Point.{Point}
use Rattle.lattice.specs.declared.point.Pos.{Pos}
use Rattle.lattice.specs.declared.point.TheConstants.{UNITS}
use Rattle.lattice.specs.declared.settings.Settings.{Settings}
use Rattle.lattice.specs.declared.settings.TheConstants.{MAX_DEPTH, MAX_REACH}
use Rattle.lattice.specs.Key.{far_end}
use Rattle.lattice.specs.Node.{is_before, is_node, nodes}
use Rattle.lattice.specs.Settings.{world_side}
use Rattle.terrain.specs.declared.brush.Brush.TheVariants.{Cuboid, Ball, Ground, Smooth}
use Rattle.terrain.specs.declared.brush.Mode.{Mode}
use Rattle.terrain.specs.declared.brush.Mode.TheVariants.{Fill, Carve}
use Rattle.terrain.specs.declared.event.Event.{Event}
use Rattle.terrain.specs.declared.event.Event.TheVariants.{Edit, Camera, Away, Undo}
use Rattle.terrain.specs.declared.event.TheConstants.{MAX_EVENTS, MAX_VIEWS}
use Rattle.terrain.specs.MeshLists.{MeshLists}
use Rattle.replicas.specs.declared.fault.WireFault.{WireFault}
use Rattle.replicas.specs.declared.fault.WireFault.TheVariants.{BadHead, BadTag, BadBase, BadCount, BadEvent, BadNode, BadVertex, BadTriangle}
use Rattle.replicas.specs.Grammar.{WireBlock, WirePatch, patch_tag}

-- ---- reading

-- what reading bytes gives: the bytes end before it is known; or a field is refused, and these bytes are behind it; or
-- a value, and these bytes are behind it
pub data Reading (A : Type 0) : Type 0 where
  More : Reading A
  Refused : WireFault → List ℕ → Reading A
  Whole : A → List ℕ → Reading A

-- reading goes on behind a value with what depends on it
infixl 10 ◌>>=◌
abbrev pub ◌>>=◌ : {A B : Type 0} → Reading A → (A → List ℕ → Reading B) → Reading B
More >>= next = More
(Refused fault rest) >>= next = Refused fault rest
(Whole x rest) >>= next = next x rest

-- a field of so many bytes that was judged
abbrev pub judged : {A : Type 0} → Result A WireFault → List ℕ → Reading A
judged (Ok x) rest = Whole x rest
judged (Err fault) rest = Refused fault rest

-- a field of so many bytes, which is judged when they have come
unfoldable pub field : {A : Type 0} → ℕ → (List ℕ → Result A WireFault) → List ℕ → Reading A
field n judge bytes =
    if nat_lt (length bytes) n then More else judged (judge (take n bytes)) (drop n bytes)

-- so many items more behind those that there are; each may depend on those before it
unfoldable pub items : {A : Type 0} → (List A → List ℕ → Reading A) → ℕ → List A → List ℕ
    → Reading (List A)
items item zero xs bytes = Whole xs bytes
items item (suc n) xs bytes = item xs bytes >>= λ x rest. items item n (xs ++ x ∷ []) rest

-- ---- what the bytes of a field say

-- the number in two bytes from a place on, and in four: the lowest byte comes first
abbrev pub two_at : ℕ → List ℕ → ℕ
two_at i bytes = slice_index bytes i + slice_index bytes (i + 1) * 0x100

abbrev pub four_at : ℕ → List ℕ → ℕ
four_at i bytes = two_at i bytes + two_at (i + 2) bytes * 0x1_0000

-- the point from a place on
abbrev pub point_read : ℕ → List ℕ → Point
point_read i bytes = record {
  z = two_at (i + 4) bytes;
  y = two_at (i + 2) bytes;
  x = two_at i bytes;
}

-- a node
abbrev pub node_read : List ℕ → Node
node_read bytes = record {
  level = slice_index bytes 0;
  k = two_at 5 bytes;
  j = two_at 3 bytes;
  i = two_at 1 bytes;
}

-- a mode, where a byte is one of the two
abbrev pub mode_read : ℕ → Option Mode
mode_read byte = if byte == 0 then Some Fill else (if byte == 1 then Some Carve else None)

-- an event of a kind of its fields, where they have a mode if it needs one
abbrev pub event_read : ℕ → List ℕ → Option Event
event_read tag bytes =
    let mode = mode_read (slice_index bytes 0) in
    if tag == 0
    then option_map (λ m. Edit (Cuboid m (point_read 1 bytes) (point_read 7 bytes))) mode
    else (if tag == 1
    then option_map (λ m. Edit (Ball m (point_read 1 bytes) (two_at 7 bytes))) mode
    else (if tag == 2 then option_map (λ m. Edit (Ground m (two_at 1 bytes))) mode
    else (if tag == 3 then Some (Edit (Smooth (point_read 0 bytes) (point_read 6 bytes)))
    else (if tag == 4 then Some (Camera (slice_index bytes 0) (point_read 1 bytes))
    else (if tag == 5 then Some (Away (slice_index bytes 0)) else Some Undo)))))

-- how many bytes the fields of an event of this tag have
abbrev pub event_size : ℕ → ℕ
event_size tag =
    if tag == 0 then 13 else (if tag == 1 then 9 else (if tag == 2 then 3
    else (if tag == 3 then 12 else (if tag == 4 then 7 else (if tag == 5 then 1 else 0)))))

-- an axis, where a byte is one of the three
abbrev pub axis_read : ℕ → Option Axis
axis_read byte =
    if byte == 0 then Some X else (if byte == 1 then Some Y
    else (if byte == 2 then Some Z else None))

-- a key with its position, where the byte of its axis is one
abbrev pub vertex_read : List ℕ → Option (Key × Pos)
vertex_read bytes =
    option_map
    (λ axis. (
      record { level = slice_index bytes 0; at = point_read 2 bytes; axis = axis },
      record { x = four_at 8 bytes; y = four_at 12 bytes; z = four_at 16 bytes },
    ))
    (axis_read (slice_index bytes 1))

-- ---- which of them a world takes

-- whether a point is in the world
abbrev pub is_point : ℕ → Point → Bool
is_point depth p =
    nat_le p.z (world_side depth) && nat_le p.y (world_side depth)
    && nat_le p.x (world_side depth)

-- whether a box is one of the world
abbrev pub is_box : ℕ → Point → Point → Bool
is_box depth lo hi =
    nat_le lo.x hi.x && nat_le lo.y hi.y && nat_le lo.z hi.z && is_point depth hi

-- whether an event is lawful
abbrev pub is_lawful : ℕ → Event → Bool
is_lawful depth (Edit (Cuboid mode lo hi)) = is_box depth lo hi
is_lawful depth (Edit (Ball mode at r)) =
    is_point depth at && nat_le 1 r && nat_le r (world_side depth)
is_lawful depth (Edit (Ground mode h)) = nat_le h (world_side depth)
is_lawful depth (Edit (Smooth lo hi)) = is_box depth lo hi
is_lawful depth (Camera view at) = nat_lt view MAX_VIEWS && is_point depth at
is_lawful depth (Away view) = nat_lt view MAX_VIEWS
is_lawful depth Undo = true

-- whether a key is one of the world: its level is, its low end lies on the level's lattice, and its edge is in the
-- world
abbrev pub is_key : ℕ → Key → Bool
is_key depth key =
    nat_le key.level depth && key.at.z % 2 ^ key.level == 0 && key.at.y % 2 ^ key.level == 0
    && key.at.x % 2 ^ key.level == 0 && is_point depth (far_end key)

-- whether a position is in the world
abbrev pub is_position : ℕ → Pos → Bool
is_position depth at =
    nat_le at.x (UNITS * world_side depth) && nat_le at.y (UNITS * world_side depth)
    && nat_le at.z (UNITS * world_side depth)

-- the last of some nodes, if there is one
abbrev pub last_node : List Node → Option Node
last_node before = slice_get before (length before - 1)

-- whether a node is behind the last one, if there is one
abbrev pub is_behind : Option Node → Node → Bool
is_behind None n = true
is_behind (Some m) n = is_before m n

-- ---- the table of fields

-- what a replica shows: the settings of its world, its events, and the block of each node that has one
pub record ReplicaWorld : Type 0 where
  pub settings : Settings
  pub events : List Event
  pub block : Node → Option MeshLists

-- a value if the test passes, and a fault if not
abbrev pub allowed : {A : Type 0} → Bool → WireFault → A → Result A WireFault
allowed test fault x = if test then Ok x else Err fault

-- the same of a value that there may not be
abbrev pub allowed_some : {A : Type 0} → (A → Bool) → WireFault → Option A → Result A WireFault
allowed_some test fault None = Err fault
allowed_some test fault (Some x) = allowed (test x) fault x

-- the head: the text, and a depth and a reach that a world may have
abbrev pub judge_head : List ℕ → Result Settings WireFault
judge_head bytes =
    let settings : Settings =
    record { depth = slice_index bytes 8; reach = slice_index bytes 9 } in
    allowed (bytes_eq (take 8 bytes) (codes "TERRAPW1") && nat_le settings.depth MAX_DEPTH
    && nat_le settings.reach MAX_REACH) BadHead settings

abbrev pub head_at : List ℕ → Reading Settings
head_at = field 10 judge_head

-- the tag of a patch
abbrev pub judge_tag : List ℕ → Result ℕ WireFault
judge_tag bytes = allowed (slice_index bytes 0 == patch_tag) BadTag (slice_index bytes 0)

abbrev pub tag_at : List ℕ → Reading ℕ
tag_at = field 1 judge_tag

-- the base of a patch: the number of the replica's events
abbrev pub judge_base : ℕ → List ℕ → Result ℕ WireFault
judge_base events bytes = allowed (four_at 0 bytes == events) BadBase (four_at 0 bytes)

abbrev pub base_at : ReplicaWorld → List ℕ → Reading ℕ
base_at world = field 4 (judge_base (length world.events))

-- how many events a patch has: with the replica's no more than a journal may have
abbrev pub judge_event_count : ℕ → List ℕ → Result ℕ WireFault
judge_event_count events bytes =
    allowed (nat_le (events + four_at 0 bytes) MAX_EVENTS) BadCount (four_at 0 bytes)

abbrev pub event_count_at : ReplicaWorld → List ℕ → Reading ℕ
event_count_at world = field 4 (judge_event_count (length world.events))

-- how many gone nodes or blocks a patch has: no more than the world has nodes
abbrev pub judge_node_count : ℕ → List ℕ → Result ℕ WireFault
judge_node_count depth bytes =
    allowed (nat_le (four_at 0 bytes) (length (nodes depth))) BadCount (four_at 0 bytes)

abbrev pub node_count_at : ReplicaWorld → List ℕ → Reading ℕ
node_count_at world = field 4 (judge_node_count world.settings.depth)

-- the tag of an event
abbrev pub judge_event_tag : List ℕ → Result ℕ WireFault
judge_event_tag bytes = allowed (nat_le (slice_index bytes 0) 6) BadTag (slice_index bytes 0)

abbrev pub event_tag_at : List ℕ → Reading ℕ
event_tag_at = field 1 judge_event_tag

-- how many edits are in force after an event, behind so many, and after more events
abbrev pub edits_after : Event → ℕ → ℕ
edits_after (Edit brush) edits = edits + 1
edits_after (Camera view at) edits = edits
edits_after (Away view) edits = edits
edits_after Undo edits = edits - 1

abbrev pub edits_of : List Event → ℕ → ℕ
edits_of [] edits = edits
edits_of (e ∷ es) edits = edits_of es (edits_after e edits)

-- whether an event is an undo, and no edit is in force
abbrev pub lacks_edit : Event → ℕ → Bool
lacks_edit (Edit brush) edits = false
lacks_edit (Camera view at) edits = false
lacks_edit (Away view) edits = false
lacks_edit Undo edits = edits == 0

-- the fields of an event with a tag, behind events after which so many edits are in force: it has to be lawful, and an
-- undo has to have an edit
abbrev pub judge_event : ℕ → ℕ → ℕ → List ℕ → Result Event WireFault
judge_event depth edits tag bytes =
    allowed_some (λ e. is_lawful depth e && not (lacks_edit e edits)) BadEvent
    (event_read tag bytes)

abbrev pub event_fields_at : ReplicaWorld → List Event → ℕ → List ℕ → Reading Event
event_fields_at world before tag =
    field (event_size tag)
    (judge_event world.settings.depth (edits_of before (edits_of world.events 0)) tag)

-- an event: its tag, and its fields
abbrev pub event_at : ReplicaWorld → List Event → List ℕ → Reading Event
event_at world before bytes =
    event_tag_at bytes >>= λ tag rest. event_fields_at world before tag rest

-- a gone node: one of the world, behind those before it, which has a block in the replica
abbrev pub judge_gone : ReplicaWorld → Option Node → List ℕ → Result Node WireFault
judge_gone world last bytes =
    let n = node_read bytes in
    allowed (is_node world.settings.depth n && is_behind last n && is_some (world.block n)) BadNode
    n

abbrev pub gone_at : ReplicaWorld → List Node → List ℕ → Reading Node
gone_at world before = field 7 (judge_gone world (last_node before))

-- the node of a block: one of the world, behind those of the blocks before it
abbrev pub judge_block_node : ℕ → Option Node → List ℕ → Result Node WireFault
judge_block_node depth last bytes =
    let n = node_read bytes in allowed (is_node depth n && is_behind last n) BadNode n

abbrev pub block_node_at : ReplicaWorld → List WireBlock → List ℕ → Reading Node
block_node_at world before =
    field 7
    (judge_block_node world.settings.depth (last_node (map (λ (b : WireBlock). b.node) before)))

-- how many keys or triangles a block has: any number
abbrev pub judge_length : List ℕ → Result ℕ WireFault
judge_length bytes = Ok (four_at 0 bytes)

abbrev pub length_at : List ℕ → Reading ℕ
length_at = field 4 judge_length

-- a key with its position: both are of the world
abbrev pub judge_vertex : ℕ → List ℕ → Result (Key × Pos) WireFault
judge_vertex depth bytes =
    allowed_some (λ v. is_key depth v.0 && is_position depth v.1) BadVertex (vertex_read bytes)

abbrev pub vertex_at : ReplicaWorld → List (Key × Pos) → List ℕ → Reading (Key × Pos)
vertex_at world before = field 20 (judge_vertex world.settings.depth)

-- a triangle of a block with so many keys
abbrev pub judge_triangle : ℕ → List ℕ → Result (List ℕ) WireFault
judge_triangle keys bytes =
    let places : List ℕ = four_at 0 bytes ∷ four_at 4 bytes ∷ four_at 8 bytes ∷ [] in
    allowed (list_all (λ place. nat_lt place keys) places) BadTriangle places

abbrev pub triangle_at : ℕ → List (List ℕ) → List ℕ → Reading (List ℕ)
triangle_at keys before = field 12 (judge_triangle keys)

-- ---- a patch

-- the block of a node with these vertices and triangles
abbrev pub block_of : Node → List (Key × Pos) → List (List ℕ) → WireBlock
block_of n vertices triangles = record {
  node = n;
  mesh = record {
    keys = map (λ v. v.0) vertices;
    positions = map (λ v. v.1) vertices;
    triangles = triangles;
  };
}

-- the rest of a block from its triangles on, of which so many are still to come behind these
abbrev pub from_triangles : Node → ℕ → List (Key × Pos) → ℕ → List (List ℕ) → List ℕ
    → Reading WireBlock
from_triangles n keys vertices count triangles bytes =
    items (triangle_at keys) count triangles bytes >>= λ list rest.
    Whole (block_of n vertices list) rest

-- the same from its vertices on
abbrev pub from_vertices : ReplicaWorld → Node → ℕ → ℕ → ℕ → List (Key × Pos) → List ℕ
    → Reading WireBlock
from_vertices world n keys triangles count vertices bytes =
    items (vertex_at world) count vertices bytes >>= λ list rest.
    from_triangles n keys list triangles [] rest

-- a block: its node, how many keys and triangles it has, its vertices and its triangles
unfoldable pub block_at : ReplicaWorld → List WireBlock → List ℕ → Reading WireBlock
block_at world before bytes =
    block_node_at world before bytes >>= λ n rest.
    length_at rest >>= λ keys rest.
    length_at rest >>= λ triangles rest.
    from_vertices world n keys triangles keys [] rest

-- how many events, gone nodes and blocks a patch has
pub record Counts : Type 0 where
  pub events : ℕ
  pub gone : ℕ
  pub blocks : ℕ

-- the rest of a patch from its blocks on, of which so many are still to come behind these
abbrev pub from_blocks : ReplicaWorld → ℕ → List Event → List Node → ℕ → List WireBlock → List ℕ
    → Reading WirePatch
from_blocks world base events gone count blocks bytes =
    items (block_at world) count blocks bytes >>= λ list rest.
    Whole (record { base = base; events = events; gone = gone; blocks = list }) rest

-- the same from its gone nodes on
abbrev pub from_gone : ReplicaWorld → ℕ → Counts → List Event → ℕ → List Node → List ℕ
    → Reading WirePatch
from_gone world base counts events count gone bytes =
    items (gone_at world) count gone bytes >>= λ list rest.
    from_blocks world base events list counts.blocks [] rest

-- and from its events on
abbrev pub from_events : ReplicaWorld → ℕ → Counts → ℕ → List Event → List ℕ → Reading WirePatch
from_events world base counts count events bytes =
    items (event_at world) count events bytes >>= λ list rest.
    from_gone world base counts list counts.gone [] rest

-- a patch: its tag, its base, how many events, gone nodes and blocks it has, and these
unfoldable pub patch_at : ReplicaWorld → List ℕ → Reading WirePatch
patch_at world bytes =
    tag_at bytes >>= λ tag rest.
    base_at world rest >>= λ base rest.
    event_count_at world rest >>= λ events rest.
    node_count_at world rest >>= λ gone rest.
    node_count_at world rest >>= λ blocks rest.
    from_events world base (record { events = events; gone = gone; blocks = blocks }) events [] rest
