-- What a table of leaves keeps: blocks and sets, from which the states follow.
-- Source: this project's rule.
use Rattle.std.specs.Prelude.{◌≡◌, Bool, true, false, ◌||◌, Option, None, Some, map}
use Rattle.lattice.specs.declared.node.Node.{Node}
use Rattle.lattice.specs.Node.{nodes}
use Rattle.node_tables.specs.NodeBits.{has}
use Rattle.node_tables.specs.NodeSlots.{item_at}
use Rattle.block_mesh.specs.Done.{DoneState}
use Rattle.mesh_board.specs.LeafStates.{LeafState, LeafStates, fresh, is_leaf_state, no_leaf, out, wanted}
use Rattle.mesh_board.specs.declared.leaf_table.LeafTable.TheInside.{Inside}

-- a node that has a block is fresh with it; of the others those of one set are wanted, and those of another out
abbrev pub state_by : Option DoneState → Bool → Bool → LeafState
state_by (Some done) is_wanted is_out = fresh done
state_by None true is_out = wanted
state_by None false true = out
state_by None false false = no_leaf

abbrev pub state_in : Inside → Node → LeafState
state_in table n =
    state_by (item_at table.blocks n) (has table.wanted n) (has table.out n)

-- the states of all nodes
abbrev pub states_of : Inside → LeafStates
states_of table = record {
  depth = table.blocks.depth;
  states = map (state_in table) (nodes table.blocks.depth);
}

-- what every table keeps: its parts are of one world, no node with a block is wanted or out, and a set has just the
-- leaves
pub record IsLeafTable (table : Inside) : Type 0 where
  pub wanted_depth : table.wanted.depth ≡ table.blocks.depth
  pub out_depth : table.out.depth ≡ table.blocks.depth
  pub leaves_depth : table.leaves.depth ≡ table.blocks.depth
  pub alone : (n : Node) (done : DoneState) → item_at table.blocks n ≡ Some done
      → (has table.wanted n || has table.out n) ≡ false
  pub listed : (n : Node) → has table.leaves n ≡ is_leaf_state (state_in table n)
