-- The curves so far are those of the runs that begin before this corner.
use Rattle.std.proofs.Common.{◌≡◌}
use Rattle.terrain.specs.Curves.{begins_run, curve_at}
use Rattle.face_curves.proofs.MapFilter.{listed}
use Rattle.face_curves.proofs.polygon.curves.Given as goal

abbrev pub invariant-loop-corner : goal.invariant-loop-corner
invariant-loop-corner l = l.curves.items ≡ listed (curve_at l.polygon) (begins_run l.polygon)
    l.corner
