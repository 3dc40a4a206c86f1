-- The desk and the board so far. It ends since a desk issues so many tickets at most.
use Rattle.std.proofs.Common.{◌≡◌, ◌-◌}
use Rattle.standing_workers.specs.declared.desk.TheConstants.{MAX_TICKETS}
use Rattle.standing_workers.specs.Desks.{IsDeskOf}
use Rattle.mesh_board.specs.Keeping.{KeepsFresh}
use Rattle.standing_workers.proofs.feeding.hand_out_all.Given as goal

abbrev pub invariant-handing : goal.invariant-handing
invariant-handing g l = record {
  desk_of : IsDeskOf l.lanes l.desk;
  seats : l.desk.seats ≡ l.fn.desk.seats;
  kept : KeepsFresh l.fn.board l.board;
}

abbrev pub decreases-handing : goal.decreases-handing
decreases-handing g l = MAX_TICKETS - l.desk.issued
