-- From the reading of a head.
use Rattle.camera_script.proofs.HeadLemmas.{head_reading-known}
use Rattle.camera_script.proofs.laws.heads_know_no_commands.Goals as goal

pub returns : goal.returns
returns c = head_reading-known
