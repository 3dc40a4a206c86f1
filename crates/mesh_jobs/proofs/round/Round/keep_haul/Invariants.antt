-- The blocks that are left are of the round, which is of the board still, in which what was fresh is so.
use Rattle.mesh_board.specs.Keeping.{KeepsFresh}
use Rattle.mesh_jobs.specs.Round.{IsHaulOf, IsRoundOf}
use Rattle.mesh_jobs.proofs.round.Round.keep_haul.Given as goal

abbrev pub invariant-loop-done : goal.invariant-loop-done
invariant-loop-done l = record {
  round : IsRoundOf l.board l.self;
  haul : IsHaulOf l.self l.haul;
  keeps : KeepsFresh l.fn.board l.board;
}

abbrev pub decreases-loop-done : goal.decreases-loop-done
decreases-loop-done l = goal.left-loop-done l
