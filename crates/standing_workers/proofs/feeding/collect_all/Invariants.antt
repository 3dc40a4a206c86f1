-- The desk and the board so far.
use Rattle.std.proofs.Common.{◌≡◌}
use Rattle.standing_workers.specs.Desks.{IsDeskOf}
use Rattle.mesh_board.specs.Keeping.{KeepsFresh}
use Rattle.standing_workers.proofs.feeding.collect_all.Given as goal

abbrev pub invariant-loop : goal.invariant-loop
invariant-loop g l = record {
  desk_of : IsDeskOf l.lanes l.desk;
  seats : l.desk.seats ≡ l.fn.desk.seats;
  kept : KeepsFresh l.fn.board l.board;
}
