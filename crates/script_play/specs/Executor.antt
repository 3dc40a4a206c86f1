-- What carries out the commands of a script one after another. This project's rule.
use Rattle.std.specs.Prelude.{◌≡◌, ℕ, ◌≤◌, Bool, List, []}
use Rattle.lattice.specs.declared.settings.Settings.{Settings}
use Rattle.terra_events.specs.World.{WorldState}
use Rattle.script_play.specs.Script.{Said}
use Rattle.camera_script.specs.declared.commands.Command.{Command}

-- an executor: the world after the events so far, what is left to write for more commands, and the number of the next
-- shot; one that writes no shots counts none
pub record ExecutorState : Type 0 where
  pub world : WorldState
  pub left : List Command → List ℕ
  pub shot : ℕ

-- nothing was carried out yet, in a world of these settings, and nothing is left to write for no commands
pub record IsFreshExecutor (rules : Settings) (executor : ExecutorState) : Type 0 where
  pub settings : executor.world.settings ≡ rules
  pub events : executor.world.events ≡ []
  pub shot : executor.shot ≤ 1
  pub ends : executor.left [] ≡ []

-- the text of what is said, by what commands write
abbrev pub text_by : (List Command → List ℕ) → Bool → Said → List ℕ
text_by write ended said = write said.commands
