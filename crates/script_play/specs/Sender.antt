-- A sender: a board whose marked events were sent. This project's rule.
use Rattle.std.specs.Prelude.{◌≡◌, ℕ, List, []}
use Rattle.lattice.specs.declared.settings.Settings.{Settings}
use Rattle.mesh_board.specs.Board.{BoardState, events_since, marked_events}
use Rattle.replicas.specs.Grammar.{WirePatch}
use Rattle.script_play.specs.Executor.{ExecutorState}
use Rattle.script_play.specs.Wire.{patch_after, publication, wire_after}
use Rattle.camera_script.specs.declared.commands.Command.{Command}

-- the patch of the events that weren't sent yet, and what an output command writes
abbrev pub patch_left : BoardState → WirePatch
patch_left board = patch_after board.world.settings (marked_events board) (events_since board)

abbrev pub publication_left : BoardState → List ℕ
publication_left board =
    publication board.world.settings (marked_events board) (events_since board)

-- what is left to send for commands
abbrev pub left_to_send : BoardState → List Command → List ℕ
left_to_send board commands =
    wire_after board.world.settings (marked_events board) (events_since board) commands

-- a sender as what carries out commands; it counts no shots
abbrev pub executor_of_board : BoardState → ExecutorState
executor_of_board board =
    record { world = board.world; left = left_to_send board; shot = 0 }

-- no event came yet, in a world of these settings
pub record IsFreshSender (rules : Settings) (board : BoardState) : Type 0 where
  pub settings : board.world.settings ≡ rules
  pub events : board.world.events ≡ []
  pub marked : board.marked ≡ 0
