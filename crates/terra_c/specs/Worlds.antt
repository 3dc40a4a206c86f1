-- What calls do with a game's world.
-- Source: this project's rule.
use Rattle.std.specs.Prelude.{◌≡◌, ◌↔◌, ◌⊎◌, ℕ, List, [], ◌∷◌, ◌++◌, MatchOption, Option, length}
use Rattle.block_mesh.specs.Done.{DoneState}
use Rattle.event_laws.specs.Changes.{change}
use Rattle.lattice.specs.declared.node.Node.{Node}
use Rattle.lattice.specs.declared.settings.Settings.{Settings}
use Rattle.lattice.specs.Settings.{IsSettings}
use Rattle.terrain.specs.declared.event.Event.{Event}
use Rattle.terrain.specs.declared.event.Event.TheVariants.{Edit}
use Rattle.terrain.specs.declared.event.TheConstants.{MAX_EVENTS}
use Rattle.terrain.specs.History.{HasNothingToUndo, IsLawfulEvent}
use Rattle.terra_events.specs.World.{IsWorldOf}
use Rattle.snapshots.specs.Seamless.{HasNoCrack}
use Rattle.mesh_board.specs.Board.{IsReady, events_since, marked_events, state_after, state_of}
use Rattle.mesh_board.specs.LeafStates.{fresh}
use Rattle.terra_world.specs.Game.{GameState, no_change}
use Rattle.terra_c.specs.declared.held.Held.{Held}
use Rattle.terra_c.specs.declared.shapes.TerraBrush.{TerraBrush}
use Rattle.terra_c.specs.declared.status.TheConstants.{DONE, NO_MEMORY, BAD_SETTINGS, NOT_LAWFUL, FULL, NOTHING_TO_UNDO, NOT_READY}
use Rattle.terra_c.specs.Held.{world_in}
use Rattle.terra_c.specs.Shapes.{brush_of_c}

-- a world is one before any event
pub record IsNew (rules : Settings) (game : GameState) : Type 0 where
  pub stands : IsWorldOf game.board.world rules []
  pub frame : game.frame.events ≡ []
  pub ready : IsReady game.board
  pub changes : game.changes ≡ no_change

-- a world is opened: the handle holds a new one, or what it held, if the settings aren't allowed or memory ran out
pub record Opens (rules : Settings) (before after : Option Held) (status : ℕ) : Type 0 where
  pub answers : (status ≡ DONE) ⊎ ((status ≡ BAD_SETTINGS) ⊎ (status ≡ NO_MEMORY))
  pub done : status ≡ DONE → MatchOption (world_in after) ⊥ (IsNew rules)
  pub bad : (status ≡ BAD_SETTINGS) ↔ (IsSettings rules → ⊥)
  pub others : (status ≡ DONE → ⊥) → after ≡ before

-- an event is added to a world, and each leaf that it touches is wanted then; where it isn't the world is as it was
pub record Applies (event : Event) (old new : GameState) (status : ℕ) : Type 0 where
  pub answers : (status ≡ DONE)
      ⊎ ((status ≡ NOT_LAWFUL)
      ⊎ ((status ≡ FULL) ⊎ ((status ≡ NOTHING_TO_UNDO) ⊎ (status ≡ NO_MEMORY))))
  pub done : status ≡ DONE
      → new.board.world.events ≡ old.board.world.events ++ event ∷ []
  pub states : status ≡ DONE
      → (n : Node) → state_of new.board n ≡ state_after old.board event n
  pub only : new ≡ record old { board = new.board }
  pub settings : new.board.world.settings ≡ old.board.world.settings
  pub marked : new.board.marked ≡ old.board.marked
  pub not_lawful : (status ≡ NOT_LAWFUL) ↔ (IsLawfulEvent old.board.world.settings.depth event → ⊥)
  pub full : (status ≡ FULL) ↔ (IsLawfulEvent old.board.world.settings.depth event
      × (length old.board.world.events ≡ MAX_EVENTS))
  pub nothing : (status ≡ NOTHING_TO_UNDO) ↔ HasNothingToUndo old.board.world.events event
  pub others : (status ≡ DONE → ⊥) → new ≡ old

-- the same of an edit by a brush, of numbers that may name none
abbrev pub Edits : TerraBrush → GameState → GameState → ℕ → Type 0
Edits said old new status =
    MatchOption (brush_of_c said) ((new ≡ old) × (status ≡ NOT_LAWFUL))
    (λ brush. Applies (Edit brush) old new status)

-- all leaves are meshed, those that were keep their blocks, and the world and its frame are as they were
pub record Settles (old new : GameState) (status : ℕ) : Type 0 where
  pub answers : (status ≡ DONE) ⊎ (status ≡ NO_MEMORY)
  pub done : status ≡ DONE → IsReady new.board
  pub only : new ≡ record old { board = new.board }
  pub world : new.board.world ≡ old.board.world
  pub marked : new.board.marked ≡ old.board.marked
  pub kept : (n : Node) (block : DoneState) → state_of old.board n ≡ fresh block
      → state_of new.board n ≡ fresh block

-- the frame has all events of the world then, and no crack, and the changes are what those since the last update
-- change; where not each leaf is meshed, or memory runs out, all is as it was
pub record Updates (old new : GameState) (status : ℕ) : Type 0 where
  pub answers : (status ≡ DONE) ⊎ ((status ≡ NOT_READY) ⊎ (status ≡ NO_MEMORY))
  pub done : status ≡ DONE → new.frame.events ≡ old.board.world.events
  pub board : status ≡ DONE
      → new.board ≡ record old.board { marked = length old.board.world.events }
  pub settings : new.frame.settings ≡ old.board.world.settings
  pub seamless : HasNoCrack new.frame
  pub changes : status ≡ DONE → new.changes
      ≡ change old.board.world.settings (marked_events old.board) (events_since old.board)
  pub not_ready : (status ≡ NOT_READY) ↔ (IsReady old.board → ⊥)
  pub others : (status ≡ DONE → ⊥) → new ≡ old
