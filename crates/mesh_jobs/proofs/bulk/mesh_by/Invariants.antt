-- The workers have hauls of the round, and what was fresh is so.
use Rattle.std.proofs.Common.{All}
use Rattle.mesh_board.specs.Keeping.{KeepsFresh}
use Rattle.mesh_jobs.specs.Round.{IsHaulOf, IsRoundOf}
use Rattle.mesh_jobs.proofs.bulk.mesh_by.Given as goal

abbrev pub invariant-loop-k : goal.invariant-loop-k
invariant-loop-k g l = record {
  hauls : All (λ worker. IsHaulOf l.round worker.haul) l.workers;
  round : IsRoundOf l.board l.round;
  keeps : KeepsFresh l.fn.board l.board;
}
