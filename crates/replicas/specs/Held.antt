-- What a replica holds: the settings of its world, its events and its blocks.
-- Source: this project's rule.
use Rattle.std.specs.Prelude.{◌≡◌, ◌^◌, ◌<◌, List, length}
use Rattle.lattice.specs.declared.settings.Settings.{Settings}
use Rattle.lattice.specs.Settings.{IsSettings}
use Rattle.terrain.specs.declared.event.Event.{Event}
use Rattle.node_tables.specs.NodeSlots.{NodeSlots, item_at}
use Rattle.terrain.specs.MeshLists.{MeshLists}
use Rattle.replicas.specs.Reading.{ReplicaWorld}

-- the settings, the events, and the table of blocks
pub record HeldState : Type 0 where
  pub settings : Settings
  pub events : List Event
  pub blocks : NodeSlots MeshLists

-- what these show
abbrev pub world_held : HeldState → ReplicaWorld
world_held held = record {
  settings = held.settings;
  events = held.events;
  block = item_at held.blocks;
}

-- the settings are ones that a world may have, the events are as many as a list may have, and the table is one of that
-- world
pub record IsHeld (held : HeldState) : Type 0 where
  pub allowed : IsSettings held.settings
  pub few : length held.events < 2 ^ 63
  pub depth : held.blocks.depth ≡ held.settings.depth
