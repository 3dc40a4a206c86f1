-- How far the reading of a patch has come, and what is read from there on.
-- Source: this project's rule.
use Rattle.std.specs.Prelude.{◌≡◌, ℕ, ◌-◌, ◌<◌, Bool, true, false, List, [], ◌∷◌, ◌++◌, All, length, if◌then◌else◌, nat_lt}
use Rattle.std.specs.List.{zip}
use Rattle.lattice.specs.declared.key.Key.{Key}
use Rattle.lattice.specs.declared.node.Node.{Node}
use Rattle.lattice.specs.declared.point.Pos.{Pos}
use Rattle.lattice.specs.Node.{IsNode}
use Rattle.terrain.specs.declared.event.Event.{Event}
use Rattle.replicas.specs.declared.stage.Stage.{Stage}
use Rattle.replicas.specs.declared.stage.Stage.TheVariants.{Tag, Base, EventCount, GoneCount, BlockCount, EventTag, Fields, Gone, BlockNode, KeyCount, TriangleCount, Vertex, Triangle, End}
use Rattle.replicas.specs.Grammar.{WireBlock, WirePatch}
use Rattle.replicas.specs.Reading.{◌>>=◌, Counts, Reading, ReplicaWorld, Whole, base_at, edits_of, event_count_at, event_fields_at, event_size, from_blocks, from_events, from_gone, from_triangles, from_vertices, length_at, node_count_at, patch_at}

-- how many bytes the next field has
abbrev pub stage_size : Stage → ℕ
stage_size Tag = 1
stage_size Base = 4
stage_size EventCount = 4
stage_size GoneCount = 4
stage_size BlockCount = 4
stage_size EventTag = 1
stage_size (Fields tag) = event_size tag
stage_size Gone = 7
stage_size BlockNode = 7
stage_size KeyCount = 4
stage_size TriangleCount = 4
stage_size Vertex = 20
stage_size Triangle = 12
stage_size End = 0

-- whether the tag of a patch comes next
abbrev pub is_tag : Stage → Bool
is_tag Tag = true
is_tag stage = false

-- a patch has begun: no tag of one comes next, and an undo, which has no fields, isn't waited for
abbrev pub HasBegun : Stage → Type 0
HasBegun Tag = ⊥
HasBegun (Fields tag) = tag < 6
HasBegun stage = Unit {0}

-- the parts of a patch that were read: which field comes next, the base, the counts, the events so far and how many
-- edits are in force after them, the nodes and the blocks so far; and of a block that isn't whole its node, how many
-- keys and triangles it has, and these so far
pub record DraftState : Type 0 where
  pub stage : Stage
  pub base : ℕ
  pub counts : Counts
  pub events : List Event
  pub edits : ℕ
  pub gone : List Node
  pub blocks : List WireBlock
  pub node : Node
  pub key_count : ℕ
  pub triangle_count : ℕ
  pub keys : List Key
  pub positions : List Pos
  pub triangles : List (List ℕ)

-- the rest of the patch from its counts on
abbrev pub from_block_count : ReplicaWorld → ℕ → ℕ → ℕ → List ℕ → Reading WirePatch
from_block_count world base events gone bytes =
    node_count_at world bytes >>= λ blocks rest.
    from_events world base (record { events = events; gone = gone; blocks = blocks }) events [] rest

abbrev pub from_gone_count : ReplicaWorld → ℕ → ℕ → List ℕ → Reading WirePatch
from_gone_count world base events bytes =
    node_count_at world bytes >>= λ gone rest. from_block_count world base events gone rest

abbrev pub from_event_count : ReplicaWorld → ℕ → List ℕ → Reading WirePatch
from_event_count world base bytes =
    event_count_at world bytes >>= λ events rest. from_gone_count world base events rest

-- the rest of the patch from its events, its gone nodes or its blocks on, behind those so far
abbrev pub events_on : ReplicaWorld → DraftState → List ℕ → Reading WirePatch
events_on world d bytes =
    from_events world d.base d.counts (d.counts.events - length d.events) d.events bytes

abbrev pub gone_on : ReplicaWorld → DraftState → List ℕ → Reading WirePatch
gone_on world d bytes =
    from_gone world d.base d.counts d.events (d.counts.gone - length d.gone) d.gone bytes

abbrev pub blocks_on : ReplicaWorld → DraftState → List ℕ → Reading WirePatch
blocks_on world d bytes =
    from_blocks world d.base d.events d.gone (d.counts.blocks - length d.blocks) d.blocks bytes

-- the same behind one event or one block more
abbrev pub behind_event : ReplicaWorld → DraftState → Event → List ℕ → Reading WirePatch
behind_event world d event rest =
    events_on world (record d { events = d.events ++ event ∷ [] }) rest

abbrev pub behind_block : ReplicaWorld → DraftState → WireBlock → List ℕ → Reading WirePatch
behind_block world d block rest =
    blocks_on world (record d { blocks = d.blocks ++ block ∷ [] }) rest

-- the rest of the patch from the vertices or the triangles of a block on, behind those so far
abbrev pub vertices_on : ReplicaWorld → DraftState → List ℕ → Reading WirePatch
vertices_on world d bytes =
    from_vertices world d.node d.key_count d.triangle_count (d.key_count - length d.keys)
    (zip d.keys d.positions) bytes >>= λ block rest. behind_block world d block rest

abbrev pub triangles_on : ReplicaWorld → DraftState → List ℕ → Reading WirePatch
triangles_on world d bytes =
    from_triangles d.node d.key_count (zip d.keys d.positions)
    (d.triangle_count - length d.triangles) d.triangles bytes >>= λ block rest.
    behind_block world d block rest

-- the patch of which all parts were read
abbrev pub draft_patch : DraftState → WirePatch
draft_patch d =
    record { base = d.base; events = d.events; gone = d.gone; blocks = d.blocks }

-- what is read of the patch from a field on
abbrev pub read_from : ReplicaWorld → DraftState → Stage → List ℕ → Reading WirePatch
read_from world d Tag bytes = patch_at world bytes
read_from world d Base bytes =
    base_at world bytes >>= λ base rest. from_event_count world base rest
read_from world d EventCount bytes = from_event_count world d.base bytes
read_from world d GoneCount bytes = from_gone_count world d.base d.counts.events bytes
read_from world d BlockCount bytes =
    from_block_count world d.base d.counts.events d.counts.gone bytes
read_from world d EventTag bytes = events_on world d bytes
read_from world d (Fields tag) bytes =
    event_fields_at world d.events tag bytes >>= λ event rest. behind_event world d event rest
read_from world d Gone bytes = gone_on world d bytes
read_from world d BlockNode bytes = blocks_on world d bytes
read_from world d KeyCount bytes =
    length_at bytes >>= λ keys rest. length_at rest >>= λ triangles rest.
    from_vertices world d.node keys triangles keys [] rest >>= λ block rest.
    behind_block world d block rest
read_from world d TriangleCount bytes =
    length_at bytes >>= λ triangles rest.
    from_vertices world d.node d.key_count triangles d.key_count [] rest >>= λ block rest.
    behind_block world d block rest
read_from world d Vertex bytes = vertices_on world d bytes
read_from world d Triangle bytes = triangles_on world d bytes
read_from world d End bytes = Whole (draft_patch d) bytes

-- the same of a draft, from its next field on
abbrev pub read_on : ReplicaWorld → DraftState → List ℕ → Reading WirePatch
read_on world d bytes = read_from world d d.stage bytes

-- ---- what a draft keeps
-- no part of a block was read that isn't whole
abbrev pub HasNoMesh : DraftState → Type 0
HasNoMesh d = (d.keys ≡ []) × (d.positions ≡ []) × (d.triangles ≡ [])

-- no block was read, or no gone node either, or no event either
abbrev pub HasNoBlock : DraftState → Type 0
HasNoBlock d = (d.blocks ≡ []) × HasNoMesh d

abbrev pub HasNoGone : DraftState → Type 0
HasNoGone d = (d.gone ≡ []) × HasNoBlock d

abbrev pub HasNoEvent : DraftState → Type 0
HasNoEvent d = (d.events ≡ []) × HasNoGone d

-- a block is read: one more is to come, and each of its keys has a position
abbrev pub HasBlock : DraftState → Type 0
HasBlock d = (length d.blocks < d.counts.blocks) × (length d.positions ≡ length d.keys)

-- where an item comes next one more is to come, and what comes later wasn't read
abbrev pub KeepsAt : DraftState → Stage → Type 0
KeepsAt d Tag = HasNoEvent d
KeepsAt d Base = HasNoEvent d
KeepsAt d EventCount = HasNoEvent d
KeepsAt d GoneCount = HasNoEvent d
KeepsAt d BlockCount = HasNoEvent d
KeepsAt d EventTag = (length d.events < d.counts.events) × HasNoGone d
KeepsAt d (Fields tag) = (length d.events < d.counts.events) × HasNoGone d
KeepsAt d Gone = (length d.gone < d.counts.gone) × HasNoBlock d
KeepsAt d BlockNode = (length d.blocks < d.counts.blocks) × HasNoMesh d
KeepsAt d KeyCount = (length d.blocks < d.counts.blocks) × HasNoMesh d
KeepsAt d TriangleCount = (length d.blocks < d.counts.blocks) × HasNoMesh d
KeepsAt d Vertex = HasBlock d × (length d.keys < d.key_count) × (d.triangles ≡ [])
KeepsAt d Triangle =
    HasBlock d × (length d.keys ≡ d.key_count) × (length d.triangles < d.triangle_count)
KeepsAt d End = HasNoMesh d

-- the same of a draft at its next field; its nodes are in the world, and the edits in force are counted
pub record IsDraft (world : ReplicaWorld) (d : DraftState) : Type 0 where
  pub keeps : KeepsAt d d.stage
  pub node : IsNode world.settings.depth d.node
  pub nodes : All (λ (block : WireBlock). IsNode world.settings.depth block.node) d.blocks
  pub edits : d.edits ≡ edits_of d.events (edits_of world.events 0)

-- ---- what comes next
-- behind the blocks, the gone nodes or the events so far
abbrev pub stage_of_blocks : DraftState → Stage
stage_of_blocks d = if nat_lt (length d.blocks) d.counts.blocks then BlockNode else End

abbrev pub stage_of_gone : DraftState → Stage
stage_of_gone d = if nat_lt (length d.gone) d.counts.gone then Gone else stage_of_blocks d

abbrev pub stage_of_events : DraftState → Stage
stage_of_events d = if nat_lt (length d.events) d.counts.events then EventTag else stage_of_gone d

-- before the first byte of a patch, behind events after which so many edits are in force
abbrev pub new_draft : ℕ → DraftState
new_draft edits = record {
  stage = Tag;
  base = 0;
  counts = record { events = 0; gone = 0; blocks = 0 };
  events = [];
  edits = edits;
  gone = [];
  blocks = [];
  node = record { level = 0; k = 0; j = 0; i = 0 };
  key_count = 0;
  triangle_count = 0;
  keys = [];
  positions = [];
  triangles = [];
}
