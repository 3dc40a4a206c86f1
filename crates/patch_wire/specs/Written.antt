-- The text of a replica: a shot of the blocks that it shows.
-- Source: this project's rule.
use Rattle.std.specs.Prelude.{◌≡◌, ℕ, ◌+◌, Bool, List, [], ◌∷◌, ◌++◌, codes, decimal, length, Option, None, Some}
use Rattle.std.specs.List.{flat_map}
use Rattle.std.specs.Option.{is_some}
use Rattle.lattice.specs.declared.node.Node.{Node}
use Rattle.lattice.specs.Node.{nodes}
use Rattle.terrain.specs.MeshLists.{MeshLists}
use Rattle.mesh_out.specs.Text.{lists_text, shot_of}
use Rattle.snapshots.specs.Frame.{FrameState, IsSound}
use Rattle.patch_wire.specs.Chain.{world_of_frame}
use Rattle.replicas.specs.Grammar.{WireBlock}
use Rattle.replicas.specs.Reading.{ReplicaWorld}
use Rattle.replicas.specs.Replicas.{ReplicaState, block_shown, shown}

-- the block of a node, if it has one
abbrev pub blocks_at : (Node → Option MeshLists) → Node → List WireBlock
blocks_at block n = elim (block n) [
  | None ↦ []
  | Some lists ↦ record { node = n; mesh = lists } ∷ []
]

-- the blocks of a world, in the order of nodes
abbrev pub blocks_of : ReplicaWorld → List WireBlock
blocks_of world = flat_map (blocks_at world.block) (nodes world.settings.depth)

-- the text of blocks, one after another, the numbers of vertices going on
abbrev pub blocks_text : ℕ → List WireBlock → List ℕ
blocks_text base [] = []
blocks_text base (block ∷ blocks) =
    lists_text base block.node block.mesh ++ blocks_text (base + length block.mesh.keys) blocks

-- the first shot of a world, behind no vertices
abbrev pub world_text : ReplicaWorld → List ℕ
world_text world =
    codes "o shot_" ++ decimal 1 ++ codes "\n# events " ++ decimal (length world.events)
    ++ codes "\n" ++ blocks_text 0 (blocks_of world)

-- that of what a replica shows; before its head is whole it has no text
abbrev pub text_shown : ReplicaState → List ℕ
text_shown replica = elim (shown replica.held) [
  | None ↦ []
  | Some world ↦ world_text world
]

-- whether a replica has a block at a node
abbrev pub has_block : ReplicaState → Node → Bool
has_block replica n = is_some (block_shown replica n)

-- the law: what shows all of a sound frame has the text of a shot of the frame
abbrev pub TextsAreShots : Type 0
TextsAreShots = (frame : FrameState) → IsSound frame
    → world_text (world_of_frame frame) ≡ shot_of 1 0 frame
