-- The loops so far are those that are listed from the keys so far.
use Rattle.std.proofs.Common.{◌≡◌}
use Rattle.terrain.specs.Curves.{cell_curves, orbit}
use Rattle.face_curves.specs.Followers.{begins_loop}
use Rattle.face_curves.proofs.MapFilter.{listed}
use Rattle.face_curves.proofs.trace.loops.Given as goal

abbrev pub invariant-loop-key : goal.invariant-loop-key
invariant-loop-key l = l.loops ≡ listed (orbit (cell_curves l.faces.items))
    (begins_loop (cell_curves l.faces.items)) l.key
