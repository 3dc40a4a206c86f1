-- A world that a game's thread owns: its board, the frame that is drawn of it, and what changed last.
-- Source: this project's rule.
use Rattle.std.specs.Prelude.{◌≡◌, []}
use Rattle.event_laws.specs.Changes.{Change}
use Rattle.mesh_board.specs.Board.{BoardState, marked_events}
use Rattle.snapshots.specs.Frame.{FrameState, IsSound}

-- a game's world: the board, the frame, and what changed in the frame as it was last brought up to date
pub record GameState : Type 0 where
  pub board : BoardState
  pub frame : FrameState
  pub changes : Change

-- a frame is the one of a board's marked journal
pub record IsMarkedFrame (board : BoardState) (frame : FrameState) : Type 0 where
  pub sound : IsSound frame
  pub settings : frame.settings ≡ board.world.settings
  pub journal : frame.events ≡ marked_events board

-- nothing changed
abbrev pub no_change : Change
no_change = record { put = []; gone = [] }
