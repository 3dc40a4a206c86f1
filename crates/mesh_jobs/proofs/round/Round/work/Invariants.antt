-- All that was made so far is of the round.
use Rattle.mesh_jobs.specs.Round.{IsHaulOf}
use Rattle.mesh_jobs.proofs.round.Round.work.Given as goal

abbrev pub invariant-loop : goal.invariant-loop
invariant-loop l = IsHaulOf l.self l.haul
