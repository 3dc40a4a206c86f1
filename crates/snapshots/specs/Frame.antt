-- Frames, and the histories that they stand for.
-- Source: this project's rule.
use Rattle.std.specs.Prelude.{◌≡◌, ◌≤◌, List, length, None}
use Rattle.std.specs.Option.{IsSomeAnd}
use Rattle.field_pages.specs.Pages.{HoldsField, Pages}
use Rattle.lattice.specs.declared.node.Node.{Node}
use Rattle.lattice.specs.declared.settings.Settings.{Settings}
use Rattle.lattice.specs.Settings.{IsSettings}
use Rattle.octree.specs.SplitBits.{SplitBits, split_at}
use Rattle.terrain.specs.declared.event.Event.{Event}
use Rattle.terrain.specs.Blocks.{Mesh, mesh}
use Rattle.terrain.specs.History.{sample}
use Rattle.terrain.specs.Levels.{IsBalanced, IsLeaf, levels}
use Rattle.event_laws.specs.Changes.{brick_after}
use Rattle.block_mesh.specs.Mesh.{ShowsMesh}
use Rattle.terrain.specs.declared.event.TheConstants.{MAX_EVENTS}
use Rattle.node_tables.specs.NodeSlots.{NodeSlots, item_at}
use Rattle.block_mesh.specs.Done.{DoneState}

-- a frame: the settings of a world, its journal, its field, its level map, and the blocks of its leaves
pub record FrameState : Type 0 where
  pub settings : Settings
  pub events : List Event
  pub version : Pages
  pub levels : SplitBits
  pub blocks : NodeSlots DoneState

-- the mesh of a leaf after a history
abbrev pub mesh_after : Settings → List Event → Node → Mesh
mesh_after settings history n =
    mesh settings.depth (sample settings history) (levels settings history) n

-- a slot has the brick of a leaf after a history, with its mesh
pub record IsBlockAfter (rules : Settings) (history : List Event) (n : Node) (done : DoneState)
    : Type 0 where
  pub brick : done.brick ≡ brick_after rules history n
  pub mesh : ShowsMesh done.mesh (mesh_after rules history n)

-- a frame stands for a history: its journal is the history's events, its field has the history's sample at each point
-- of the world, its level map is the history's, the slot of each leaf has the leaf's brick and mesh, and no other slot
-- has anything
pub record StandsFor (frame : FrameState) (rules : Settings) (history : List Event) : Type 0 where
  pub settings : frame.settings ≡ rules
  pub journal : frame.events ≡ history
  pub field_depth : frame.version.depth ≡ rules.depth
  pub field : HoldsField frame.version (sample rules history)
  pub map_depth : frame.levels.depth ≡ rules.depth
  pub map : (n : Node) → split_at frame.levels n ≡ levels rules history n
  pub table_depth : frame.blocks.depth ≡ rules.depth
  pub leaves : (n : Node) → IsLeaf rules.depth (levels rules history) n
      → IsSomeAnd (item_at frame.blocks n) (IsBlockAfter rules history n)
  pub others : (n : Node) → (IsLeaf rules.depth (levels rules history) n → ⊥)
      → item_at frame.blocks n ≡ None

-- a sound frame stands for its own journal, which has no more events than it may; its settings are allowed and its
-- level map is balanced
pub record IsSound (frame : FrameState) : Type 0 where
  pub allowed : IsSettings frame.settings
  pub stands : StandsFor frame frame.settings frame.events
  pub balanced : IsBalanced frame.settings.depth (split_at frame.levels)
  pub few : length frame.events ≤ MAX_EVENTS
