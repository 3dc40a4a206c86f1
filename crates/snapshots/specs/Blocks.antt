-- Tables of the blocks of a world: what each slot has, and what changes put there. This project's rule.
use Rattle.std.specs.Prelude.{◌≡◌, if◌then◌else◌, List, [], ◌∷◌, Option, None, Some, map}
use Rattle.lattice.specs.declared.node.Node.{Node}
use Rattle.node_tables.specs.NodeSlots.{IsNodeTable, NodeSlots, item_at}
use Rattle.lattice.specs.Node.{is_same_node, is_among, nodes}
use Rattle.block_mesh.specs.Done.{DoneState, IsDone}

-- each mesh in a table is that of its brick
abbrev pub HasOwnMeshes : NodeSlots DoneState → Type 0
HasOwnMeshes blocks = (n : Node) (done : DoneState) → item_at blocks n ≡ Some done → IsDone done

-- what every table of blocks keeps: it has a slot for each node, and each mesh in it is its brick's
pub record IsBlockTable (blocks : NodeSlots DoneState) : Type 0 where
  pub table : IsNodeTable blocks
  pub dones : HasOwnMeshes blocks

-- a table as the list of what the slots of its world's nodes have, in the order of nodes
abbrev pub listed : NodeSlots DoneState → NodeSlots DoneState
listed table = record {
  depth = table.depth;
  slots = map (item_at table) (nodes table.depth);
}

-- the node of a block
abbrev pub block_node : DoneState → Node
block_node done = done.brick.node

-- what the slot of a node has once blocks were put into their nodes' slots, one after another
abbrev pub put_over : List DoneState → Node → Option DoneState → Option DoneState
put_over [] n held = held
put_over (done ∷ dones) n held =
    put_over dones n (if is_same_node done.brick.node n then Some done else held)

-- what the slot of a node has once the slots of some nodes were cleared
abbrev pub cleared : List Node → Node → Option DoneState → Option DoneState
cleared nodes n held = if is_among nodes n then None else held
