-- From the readings of heads and of commands.
use Rattle.camera_script.proofs.LawfulLemmas.{head_reading-allowed, command_reading-lawful}
use Rattle.camera_script.proofs.laws.readings_are_lawful.Goals as goal

pub returns : goal.returns
returns c = record { heads = head_reading-allowed; commands = command_reading-lawful }
