-- An engine, what it shows, and what is left to write. This project's rule.
use Rattle.std.specs.Prelude.{◌≡◌, ℕ, ◌+◌, ◌<◌, ◌≤◌, List, []}
use Rattle.lattice.specs.declared.settings.Settings.{Settings}
use Rattle.mesh_board.specs.Board.{BoardState}
use Rattle.published_frames.specs.Series.{Series}
use Rattle.snapshots.specs.Frame.{FrameState}
use Rattle.script_play.specs.declared.engine.TheConstants.{COMMAND_LIMIT}
use Rattle.surface_query.specs.declared.bases.Bases.{Bases}
use Rattle.script_play.specs.Executor.{ExecutorState}
use Rattle.script_play.specs.Output.{no_bases, output_after}
use Rattle.camera_script.specs.declared.commands.Command.{Command}

-- an engine: its board, the series of its frames, the one that is shown, how many viewers of them it has given, the
-- number of the next shot, and how many vertices and normals were written
pub record EngineState : Type 0 where
  pub board : BoardState
  pub series : Series
  pub shown : FrameState
  pub viewers : ℕ
  pub shot : ℕ
  pub bases : Bases

-- the world and the counts are as they were
pub record Keeps (old new : EngineState) : Type 0 where
  pub world : new.board.world ≡ old.board.world
  pub shot : new.shot ≡ old.shot
  pub bases : new.bases ≡ old.bases

-- the engine was started so few commands ago that its count of shots fits
pub record FitsAfter (engine : EngineState) (commands : ℕ) : Type 0 where
  pub shot : engine.shot ≤ commands + 1
  pub few : commands < COMMAND_LIMIT

-- nothing was carried out yet, in a world of these settings
pub record IsFreshEngine (rules : Settings) (engine : EngineState) : Type 0 where
  pub settings : engine.board.world.settings ≡ rules
  pub events : engine.board.world.events ≡ []
  pub shot : engine.shot ≡ 1
  pub bases : engine.bases ≡ no_bases

-- what is left to write for commands
abbrev pub left_to_write : EngineState → List Command → List ℕ
left_to_write engine commands =
    let world = engine.board.world in
    output_after world.settings world.events engine.shot engine.bases commands

-- an engine as what carries out commands
abbrev pub executor_of : EngineState → ExecutorState
executor_of engine = record {
  world = engine.board.world;
  left = left_to_write engine;
  shot = engine.shot;
}
