-- The crew of these queues and this desk.
use Rattle.std.proofs.Common.{Some}
use Rattle.requests.proofs.player.Player.play_and_close.Given as goal

abbrev pub ghosts-play_with_crew : goal.ghosts-play_with_crew
ghosts-play_with_crew g a = record { lanes = Some a.lanes.now; seats = a.desk.seats }
