-- From the wording of a command.
use Rattle.camera_script.proofs.WordingLemmas.{command_in-wording}
use Rattle.camera_script.proofs.laws.lawful_commands_are_read.Goals as goal

pub returns : goal.returns
returns c = command_in-wording
