-- Patches that a frame absorbs in place: what the frame is then, and the laws of it.
-- Source: this project's rule.
use Rattle.std.specs.Prelude.{◌≡◌, ◌+◌, ◌≤◌, Bool, false, ◌&&◌, List, [], ◌∷◌, ◌++◌, if◌then◌else◌, length, map, nat_le, Option, None, take}
use Rattle.std.specs.Arc.{arc_value}
use Rattle.std.specs.List.{fold, list_all}
use Rattle.lattice.specs.declared.node.Node.{Node}
use Rattle.lattice.specs.declared.settings.Settings.{Settings}
use Rattle.lattice.specs.Node.{is_node, nodes}
use Rattle.octree.specs.SplitBits.{split_at}
use Rattle.terrain.specs.declared.event.Event.{Event}
use Rattle.terrain.specs.declared.event.TheConstants.{MAX_EVENTS}
use Rattle.terrain.specs.Levels.{is_leaf}
use Rattle.node_tables.specs.NodeSlots.{NodeSlots, item_at}
use Rattle.block_mesh.specs.Done.{DoneState}
use Rattle.snapshots.specs.Blocks.{HasOwnMeshes, block_node, put_over}
use Rattle.snapshots.specs.Frame.{FrameState, IsSound, StandsFor}
use Rattle.snapshots.specs.Patch.{Fits}
use Rattle.snapshots.specs.declared.patch.Patch.{Patch}

-- whether a patch suits a frame: the frame has at least as many events as the patch's base, so many and the patch's
-- events are no more than a journal may have, and the patch's blocks are of nodes of the frame's world
abbrev pub suits : Patch → FrameState → Bool
suits patch frame =
    nat_le patch.base (length frame.events)
    && nat_le (patch.base + length patch.events.items) MAX_EVENTS
    && list_all (λ done. is_node frame.settings.depth (block_node done))
    (map arc_value patch.put.items)

-- whether a node is a leaf of a patch's level map
abbrev pub is_leaf_after : Patch → Node → Bool
is_leaf_after patch n = is_leaf patch.levels.value.depth (split_at patch.levels.value) n

-- what the slot of a node has after a patch: a leaf's has the last of the patch's blocks for it, or what it had where
-- the patch has none, and no other slot has anything
abbrev pub held_after : FrameState → Patch → Node → Option DoneState
held_after frame patch n =
    if is_leaf_after patch n
    then put_over (map arc_value patch.put.items) n (item_at frame.blocks n) else None

-- the table of these slots
abbrev pub blocks_after : FrameState → Patch → NodeSlots DoneState
blocks_after frame patch = record {
  depth = frame.settings.depth;
  slots = map (held_after frame patch) (nodes frame.settings.depth);
}

-- a frame that has absorbed a patch: where the patch doesn't suit it, it is as it was; else its journal is its events
-- up to the patch's base and then the patch's, its field and its level map are the patch's, and so are the blocks
-- that the patch has
unfoldable pub absorbed : FrameState → Patch → FrameState
absorbed frame patch =
    if suits patch frame then record {
      settings = frame.settings;
      events = take patch.base frame.events ++ patch.events.items;
      version = patch.version.value;
      levels = patch.levels.value;
      blocks = blocks_after frame patch;
    } else frame

-- what the type of a frame keeps: its table is one of its world, and has blocks for leaves of its level map alone
pub record IsTidy (frame : FrameState) : Type 0 where
  pub depth : frame.blocks.depth ≡ frame.settings.depth
  pub others : (n : Node) → is_leaf frame.levels.depth (split_at frame.levels) n ≡ false
      → item_at frame.blocks n ≡ None

-- ---- the laws

-- a frame leads to another by a patch: whatever history the one stands for, where the patch fits it and a journal may
-- have that many events, the other stands for the history with the patch's events
abbrev pub LeadsTo : FrameState → Patch → FrameState → Type 0
LeadsTo frame patch next =
    (rules : Settings) (history : List Event) → StandsFor frame rules history → Fits patch frame
    → length history + length patch.events.items ≤ MAX_EVENTS
    → StandsFor next rules (history ++ patch.events.items)

-- a sound frame leads to a sound one by a patch, where the patch fits it and a journal may have that many events
abbrev pub StaysSound : FrameState → Patch → FrameState → Type 0
StaysSound frame patch next =
    IsSound frame → Fits patch frame
    → length frame.events + length patch.events.items ≤ MAX_EVENTS → IsSound next

-- a frame that absorbs a patch becomes one to which the patch leads, where each block then has the mesh of its brick,
-- as the types of blocks keep
abbrev pub FramesAbsorbPatches : Type 0
FramesAbsorbPatches = (frame : FrameState) (patch : Patch)
    → HasOwnMeshes (absorbed frame patch).blocks → LeadsTo frame patch (absorbed frame patch)

-- and a sound one, if it was sound
abbrev pub FramesStaySound : Type 0
FramesStaySound = (frame : FrameState) (patch : Patch)
    → HasOwnMeshes (absorbed frame patch).blocks → StaysSound frame patch (absorbed frame patch)

-- of two patches that fit one frame, the later of which goes on from the events of the other, the later one alone
-- makes the frame that both make, one after the other
abbrev pub LaterPatchesSuffice : Type 0
LaterPatchesSuffice = (frame : FrameState) (patch later : Patch) (rest : List Event)
    → Fits patch frame → Fits later frame → later.events.items ≡ patch.events.items ++ rest
    → length frame.events + length later.events.items ≤ MAX_EVENTS
    → absorbed (absorbed frame patch) later ≡ absorbed frame later

-- the first of some patches, or a later one where there is none
abbrev pub next_patch : List Patch → Patch → Patch
next_patch [] later = later
next_patch (patch ∷ patches) later = patch

-- patches are pending on a frame before a later one: all of them and the later one fit the frame, and each one's
-- events go on from those of the one before
abbrev pub ArePending : FrameState → List Patch → Patch → Type 0
ArePending frame [] later = Fits later frame
ArePending frame (patch ∷ patches) later =
    Fits patch frame
    × ((rest : List Event)
    × ((next_patch patches later).events.items ≡ patch.events.items ++ rest))
    × ArePending frame patches later

-- so pending patches and a later one make, one after another, what the later one alone makes
abbrev pub LastPatchSuffices : Type 0
LastPatchSuffices = (frame : FrameState) (patches : List Patch) (later : Patch)
    → ArePending frame patches later
    → length frame.events + length later.events.items ≤ MAX_EVENTS
    → fold absorbed frame (patches ++ later ∷ []) ≡ absorbed frame later
