-- Boards: a world, how each of its leaves is, and how many of its events were published.
-- Source: this project's rule.
use Rattle.std.specs.Prelude.{◌≡◌, ℕ, ◌≤◌, Bool, true, false, ◌&&◌, not, IsTrue, List, [], ◌∷◌, ◌++◌, length, take, drop}
use Rattle.lattice.specs.declared.node.Node.{Node}
use Rattle.terrain.specs.declared.event.Event.{Event}
use Rattle.terrain.specs.Blocks.{Brick, touched}
use Rattle.terrain.specs.Levels.{is_leaf, levels}
use Rattle.event_laws.specs.Changes.{brick_after, is_touched}
use Rattle.lattice.specs.Node.{is_among}
use Rattle.terra_events.specs.World.{WorldState}
use Rattle.block_mesh.specs.Done.{DoneState, IsDone}
use Rattle.mesh_board.specs.LeafStates.{ChangesState, IsFirstWanted, IsSettled, LeafState, LeafStates, fresh, is_leaf_state, no_leaf, out, state_at, wanted}
use Rattle.mesh_board.specs.declared.verdict.Verdict.{Verdict}
use Rattle.mesh_board.specs.declared.verdict.Verdict.TheVariants.{Kept, Stale}

-- a board: a world, how its nodes are, and how many events of its journal are marked as published
pub record BoardState : Type 0 where
  pub world : WorldState
  pub leaves : LeafStates
  pub marked : ℕ

-- how a node is
abbrev pub state_of : BoardState → Node → LeafState
state_of board n = state_at board.leaves n

-- the marked journal, and the events since
abbrev pub marked_events : BoardState → List Event
marked_events board = take board.marked board.world.events

abbrev pub events_since : BoardState → List Event
events_since board = drop board.marked board.world.events

-- whether a node is a leaf of the board's world
abbrev pub is_leaf_of : BoardState → Node → Bool
is_leaf_of board n =
    let settings = board.world.settings in
    is_leaf settings.depth (levels settings board.world.events) n

-- whether a patch puts a node: it is a leaf that an event touched since the mark
abbrev pub is_put : BoardState → Node → Bool
is_put board n =
    is_touched board.world.settings (marked_events board) (events_since board) n
    && is_leaf_of board n

-- whether a patch names a node as gone: it was a leaf at the mark, and is none now
abbrev pub is_gone : BoardState → Node → Bool
is_gone board n =
    let settings = board.world.settings in
    is_leaf settings.depth (levels settings (marked_events board)) n && not (is_leaf_of board n)

-- the present brick of a leaf: that of the world's journal
abbrev pub present_brick : BoardState → Node → Brick
present_brick board n = brick_after board.world.settings board.world.events n

-- what every board keeps: just the leaves of the world are wanted, out or fresh; a fresh one has its present brick,
-- with the mesh of it; and the marked journal is a part of the journal, from its first event on
pub record IsBoard (board : BoardState) : Type 0 where
  pub leaf : (n : Node) → is_leaf_state (state_of board n) ≡ is_leaf_of board n
  pub brick : (n : Node) (done : DoneState) → state_of board n ≡ fresh done
      → done.brick ≡ present_brick board n
  pub mesh : (n : Node) (done : DoneState) → state_of board n ≡ fresh done → IsDone done
  pub marked : board.marked ≤ length board.world.events

-- every leaf is fresh: no node is wanted or out
abbrev pub IsReady : BoardState → Type 0
IsReady board = (n : Node) → IsSettled (state_of board n)

-- ---- what calls change

-- how a node is after an event, by whether the event touches it and whether it is a leaf then: a touched leaf is
-- wanted, another leaf is as it was
abbrev pub state_then : Bool → Bool → LeafState → LeafState
state_then true leaf state = wanted
state_then false true state = state
state_then false false state = no_leaf

abbrev pub state_after : BoardState → Event → Node → LeafState
state_after board event n =
    let settings = board.world.settings in
    let events = board.world.events in
    let after = levels settings (events ++ event ∷ []) in
    state_then (is_among (touched settings events event) n) (is_leaf settings.depth after n)
    (state_of board n)

-- one node is in this state, and all else is as it was
pub record ChangesOnly (old new : BoardState) (n : Node) (state : LeafState) : Type 0 where
  pub world : new.world ≡ old.world
  pub marked : new.marked ≡ old.marked
  pub leaves : ChangesState old.leaves new.leaves n state

-- a brick is that of a leaf, and the present one
pub record IsPresentBrick (board : BoardState) (brick : Brick) : Type 0 where
  pub leaf : IsTrue (is_leaf_of board brick.node)
  pub same : brick ≡ present_brick board brick.node

-- a brick is the present one of this leaf
pub record IsBrickOf (board : BoardState) (leaf : Node) (brick : Brick) : Type 0 where
  pub node : brick.node ≡ leaf
  pub present : IsPresentBrick board brick

-- the present brick of the first wanted leaf is taken, and the leaf is out then
pub record Takes (old new : BoardState) (brick : Brick) : Type 0 where
  pub first : IsFirstWanted old.leaves brick.node
  pub present : IsPresentBrick old brick
  pub changes : ChangesOnly old new brick.node out

-- a brick with its mesh is kept exactly where the brick is the present one, and then the leaf is fresh with it; where
-- it isn't, nothing changes
abbrev pub Delivers : BoardState → BoardState → DoneState → Verdict → Type 0
Delivers old new done Kept =
    IsPresentBrick old done.brick × ChangesOnly old new done.brick.node (fresh done)
Delivers old new done Stale = (IsPresentBrick old done.brick → ⊥) × (new ≡ old)
