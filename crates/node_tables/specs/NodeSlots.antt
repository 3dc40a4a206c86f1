-- Tables with a slot for each node of a world, in the order of nodes.
-- Source: this project's rule.
use Rattle.std.specs.Prelude.{◌≡◌, ℕ, true, false, List, length, Option, None, slice_index_or}
use Rattle.lattice.specs.declared.node.Node.{Node}
use Rattle.lattice.specs.Node.{is_node, nodes, slot}
use Rattle.lattice.specs.Settings.{IsDepth}

-- the depth of a world, and what the slots of its nodes have, in the order of nodes: one item at most each
pub record NodeSlots (T : Type 0) : Type 0 where
  pub depth : ℕ
  pub slots : List (Option T)

-- what the slot of a node has; a node that isn't in the world has no slot
unfoldable pub item_at : {T : Type 0} → NodeSlots T → Node → Option T
item_at table n = elim (is_node table.depth n) [
  | true ↦ slice_index_or table.slots (slot table.depth n) None
  | false ↦ None
]

-- there is a slot for each node of the world
pub record IsNodeTable {T : Type 0} (table : NodeSlots T) : Type 0 where
  pub depth : IsDepth table.depth
  pub long : length table.slots ≡ length (nodes table.depth)
