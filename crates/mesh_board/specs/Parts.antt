-- What the parts of a board keep.
-- Source: this project's rule.
use Rattle.std.specs.Prelude.{◌≡◌, All}
use Rattle.lattice.specs.declared.node.Node.{Node}
use Rattle.node_tables.specs.NodeBits.{has}
use Rattle.terrain.specs.History.{IsLawfulEvent}
use Rattle.terrain.specs.Levels.{IsOctree, is_leaf, levels}
use Rattle.event_laws.specs.Changes.{is_touched}
use Rattle.mesh_board.specs.Board.{BoardState, IsBoard, events_since, marked_events}
use Rattle.mesh_board.specs.declared.board.Board.TheInside.{Inside}

-- the board of the parts
abbrev pub board_of : Inside → BoardState
board_of parts = record {
  world = parts.world;
  leaves = parts.leaves;
  marked = parts.marked;
}

-- what the parts of every board keep: they make a board, all is of one world, all events are lawful, one set has the
-- leaves of the marked journal, and another the nodes that an event touched since
pub record AreParts (parts : Inside) : Type 0 where
  pub board : IsBoard (board_of parts)
  pub leaves_depth : parts.leaves.depth ≡ parts.world.settings.depth
  pub marked_depth : parts.marked_leaves.depth ≡ parts.world.settings.depth
  pub touched_depth : parts.touched.depth ≡ parts.world.settings.depth
  pub octree : IsOctree parts.world.settings.depth
      (levels parts.world.settings parts.world.events)
  pub lawful : All (IsLawfulEvent parts.world.settings.depth) parts.world.events
  pub marked_leaves : (n : Node) → has parts.marked_leaves n
      ≡ is_leaf parts.world.settings.depth
      (levels parts.world.settings (marked_events (board_of parts))) n
  pub touched : (n : Node) → has parts.touched n
      ≡ is_touched parts.world.settings (marked_events (board_of parts))
      (events_since (board_of parts)) n
