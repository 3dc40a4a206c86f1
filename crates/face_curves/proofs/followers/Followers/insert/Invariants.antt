-- The curves of the face that are entered so far come behind those that the table had.
use Rattle.std.proofs.Common.{List, ◌++◌, take}
use Rattle.terrain.specs.declared.curve.Curve.{Curve}
use Rattle.face_curves.specs.Followers.{Follows, StartApart}
use Rattle.face_curves.proofs.followers.Followers.insert.Given as goal

abbrev pub invariant-loop-curve : goal.invariant-loop-curve
invariant-loop-curve l = (cs : List Curve) → Follows cs l.fn.self.ends → StartApart (cs ++ l.curves)
    → Follows (cs ++ take l.curve-index l.curves) l.self.ends
