-- A board with what its publisher shows.
-- Source: this project's rule.
use Rattle.std.specs.Prelude.{ℕ}
use Rattle.mesh_board.specs.Board.{BoardState}
use Rattle.published_frames.specs.Series.{Series}
use Rattle.published_frames.specs.States.{PublisherState}
use Rattle.snapshots.specs.Frame.{FrameState}

-- a scene: its board, the series of its frames, the one that viewers enter, and how many viewers it has given
pub record SceneState : Type 0 where
  pub board : BoardState
  pub series : Series
  pub shown : FrameState
  pub viewers : ℕ

-- a scene of a board and a publisher
abbrev pub scene_of : BoardState → PublisherState → SceneState
scene_of board publisher = record {
  board = board;
  series = publisher.series;
  shown = publisher.frame;
  viewers = publisher.viewers;
}

-- what the publisher of a scene is
abbrev pub publisher_of : SceneState → PublisherState
publisher_of scene =
    record { series = scene.series; frame = scene.shown; viewers = scene.viewers }
