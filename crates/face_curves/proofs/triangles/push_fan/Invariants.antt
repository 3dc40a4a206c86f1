-- The triangles so far are the first of the loop's, behind those that were there.
use Rattle.std.proofs.Common.{◌≡◌, ◌-◌, ◌≤◌, ◌++◌, take}
use Rattle.terrain.specs.Curves.{fan_of}
use Rattle.face_curves.proofs.triangles.push_fan.Given as goal

abbrev pub invariant-loop-i : goal.invariant-loop-i
invariant-loop-i l = record {
  from : 2 ≤ l.i;
  so_far : l.triangles.items ≡ l.fn.triangles.items ++ take (l.i - 2) (fan_of l.keys);
}
