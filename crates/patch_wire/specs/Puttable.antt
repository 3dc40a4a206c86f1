-- Which patches a wire takes, and what they are on it.
-- Source: this project's rule.
use Rattle.std.specs.Prelude.{ℕ, ◌+◌, ◌≤◌, All, length, map}
use Rattle.std.specs.Arc.{arc_value}
use Rattle.lattice.specs.Node.{IsNode, nodes}
use Rattle.terrain.specs.declared.event.TheConstants.{MAX_EVENTS}
use Rattle.terrain.specs.History.{IsLawfulEvent}
use Rattle.block_mesh.specs.Done.{DoneState}
use Rattle.snapshots.specs.declared.patch.Patch.{Patch}
use Rattle.replicas.specs.Grammar.{WireBlock, WirePatch}
use Rattle.replicas.specs.Worlds.{IsOfWorld}

-- a patch that a wire takes: its events are lawful in the world, its nodes and blocks are of the world, no more of them
-- than the world has nodes, and the events before it and its own are no more than a journal may have
pub record IsTaken (depth : ℕ) (patch : WirePatch) : Type 0 where
  pub events : All (IsLawfulEvent depth) patch.events
  pub gone : All (IsNode depth) patch.gone
  pub blocks : All (IsOfWorld depth) patch.blocks
  pub few_events : patch.base + length patch.events ≤ MAX_EVENTS
  pub few_gone : length patch.gone ≤ length (nodes depth)
  pub few_blocks : length patch.blocks ≤ length (nodes depth)

-- a block on the wire: its leaf and the lists of its mesh
abbrev pub wire_block : DoneState → WireBlock
wire_block done = record { node = done.brick.node; mesh = done.mesh }

-- a patch on the wire: its field and its level map don't go there
abbrev pub wire_patch : Patch → WirePatch
wire_patch patch = record {
  base = patch.base;
  events = patch.events.items;
  gone = patch.gone.items;
  blocks = map (λ done. wire_block (arc_value done)) patch.put.items;
}

-- a wire takes a patch in the world whose depth its field has
abbrev pub CanBePut : Patch → Type 0
CanBePut patch = IsTaken patch.version.value.depth (wire_patch patch)
