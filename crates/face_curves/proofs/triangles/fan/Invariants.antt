-- The triangles so far are those of the loops so far.
use Rattle.std.proofs.Common.{◌≡◌, take}
use Rattle.terrain.specs.Curves.{fan}
use Rattle.face_curves.proofs.triangles.fan.Given as goal

abbrev pub invariant-loop-index : goal.invariant-loop-index
invariant-loop-index l = l.triangles.items ≡ fan (take l.index l.loops)
