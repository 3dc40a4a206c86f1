-- What was fresh is so still.
use Rattle.mesh_board.specs.Keeping.{KeepsFresh}
use Rattle.schedules.proofs.chaos.Chaos.deliver_all.Given as goal

abbrev pub invariant-loop-done : goal.invariant-loop-done
invariant-loop-done l = KeepsFresh l.fn.board l.board
