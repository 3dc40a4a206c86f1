-- A board and what is shown of it. This project's rule.
use Rattle.std.specs.Prelude.{◌≡◌}
use Rattle.mesh_board.specs.Board.{BoardState, marked_events}
use Rattle.snapshots.specs.Frame.{FrameState, IsSound}

-- a frame is the one of a board's marked journal
pub record ShowsMarked (board : BoardState) (frame : FrameState) : Type 0 where
  pub sound : IsSound frame
  pub settings : frame.settings ≡ board.world.settings
  pub journal : frame.events ≡ marked_events board
