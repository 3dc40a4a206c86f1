-- Chains of patches from the opening frame of a world on, and what comes of a wire of them.
-- Source: this project's rule.
use Rattle.std.specs.Prelude.{◌≡◌, ◌≢◌, ℕ, ◌<◌, true, List, [], ◌∷◌, ◌++◌, All, flat_map, length, None, Some}
use Rattle.std.specs.Arc.{arc_value}
use Rattle.std.specs.List.{fold}
use Rattle.std.specs.Option.{option_map}
use Rattle.lattice.specs.declared.node.Node.{Node}
use Rattle.lattice.specs.declared.settings.Settings.{Settings}
use Rattle.terrain.specs.declared.event.Event.{Event}
use Rattle.terrain.specs.declared.event.Event.TheVariants.{Undo}
use Rattle.terrain.specs.History.{in_force}
use Rattle.node_tables.specs.NodeSlots.{item_at}
use Rattle.block_mesh.specs.Done.{DoneState, IsDone}
use Rattle.snapshots.specs.Absorbed.{absorbed}
use Rattle.snapshots.specs.Blocks.{HasOwnMeshes}
use Rattle.snapshots.specs.Frame.{FrameState, IsSound}
use Rattle.snapshots.specs.Patch.{Fits}
use Rattle.snapshots.specs.declared.patch.Patch.{Patch}
use Rattle.replicas.specs.declared.fault.WireFault.TheVariants.{NoMemory}
use Rattle.replicas.specs.Fed.{IsFed}
use Rattle.replicas.specs.Following.{Outcome, wire}
use Rattle.replicas.specs.Grammar.{head_bytes, patch_bytes}
use Rattle.patch_wire.specs.Puttable.{CanBePut, wire_patch}
use Rattle.replicas.specs.Reading.{ReplicaWorld}
use Rattle.replicas.specs.Replicas.{ReplicaState, block_shown, events_shown, is_at_rest, settings_shown}

-- ---- chains

-- the opening frame of a world: it is sound and has no events; as the type of frames keeps, each of its meshes is that
-- of its brick
pub record IsOpening (frame : FrameState) : Type 0 where
  pub sound : IsSound frame
  pub empty : frame.events ≡ []
  pub meshes : HasOwnMeshes frame.blocks

-- a patch comes next after a frame: it fits the frame, and a wire takes it; as the type of blocks keeps, each of its
-- meshes is that of its brick
pub record ComesNext (frame : FrameState) (patch : Patch) : Type 0 where
  pub fits : Fits patch frame
  pub taken : CanBePut patch
  pub meshes : All (λ done. IsDone (arc_value done)) patch.put.items

-- a chain from a frame on: each patch comes next after the frame that those before it lead to
abbrev pub IsChain : FrameState → List Patch → Type 0
IsChain frame [] = Unit {0}
IsChain frame (patch ∷ patches) = ComesNext frame patch × IsChain (absorbed frame patch) patches

-- the frame that all of them lead to
abbrev pub last_frame : FrameState → List Patch → FrameState
last_frame frame patches = fold absorbed frame patches

-- each undo of a journal has an edit in force before it
abbrev pub UndoesEdits : List Event → Type 0
UndoesEdits journal = (before after : List Event) → journal ≡ before ++ Undo ∷ after
    → 0 < length (in_force before)

-- ---- what comes of them

-- the wire of a chain: the head, and the patches in order
abbrev pub chain_bytes : Settings → List Patch → List ℕ
chain_bytes settings patches =
    head_bytes settings ++ flat_map (λ patch. patch_bytes (wire_patch patch)) patches

-- what a replica shows that has all of a frame: its settings, its journal, and at each node the lists of its block, or
-- none where it has none
abbrev pub world_of_frame : FrameState → ReplicaWorld
world_of_frame frame = record {
  settings = frame.settings;
  events = frame.events;
  block = λ n. option_map (λ (done : DoneState). done.mesh) (item_at frame.blocks n);
}

-- all bytes were taken, no field was refused and no part of a patch stands; so many patches took effect, and what is
-- shown is all of a frame
pub record Reaches (frame : FrameState) (count bytes : ℕ) (outcome : Outcome) : Type 0 where
  pub world : outcome.world ≡ Some (world_of_frame frame)
  pub patches : outcome.patches ≡ count
  pub at_rest : outcome.at_rest ≡ true
  pub fault : outcome.fault ≡ None
  pub taken : outcome.taken ≡ bytes

-- ---- the laws
-- the wire of a chain reaches the last frame, if each undo in its journal has an edit in force before it
abbrev pub WiresReachLastFrames : Type 0
WiresReachLastFrames = (opening : FrameState) (patches : List Patch) → IsOpening opening
    → IsChain opening patches → UndoesEdits (last_frame opening patches).events
    → (let bytes = chain_bytes opening.settings patches in
    Reaches (last_frame opening patches) (length patches) (length bytes) (wire bytes))

-- a replica at rest shows all of a frame
pub record ShowsFrame (frame : FrameState) (replica : ReplicaState) : Type 0 where
  pub settings : settings_shown replica ≡ Some frame.settings
  pub events : events_shown replica ≡ frame.events
  pub block : (n : Node)
      → block_shown replica n ≡ (world_of_frame frame).block n
  pub at_rest : is_at_rest replica ≡ true
  pub fault : replica.fault ≡ None

-- so a replica that was fed with it, in any pieces, shows the last frame, but where memory ran out
abbrev pub ReplicasShowLastFrames : Type 0
ReplicasShowLastFrames = (opening : FrameState) (patches : List Patch) (replica : ReplicaState)
    → IsOpening opening → IsChain opening patches
    → UndoesEdits (last_frame opening patches).events
    → IsFed (chain_bytes opening.settings patches) replica → replica.fault ≢ Some NoMemory
    → ShowsFrame (last_frame opening patches) replica
