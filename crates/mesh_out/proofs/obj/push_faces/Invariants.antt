-- The triangles so far: those that were appended, and behind them those that are gathered.
use Rattle.std.proofs.Common.{◌≡◌, ◌≤◌, ◌++◌, length, take, flat_map}
use Rattle.mesh_out.specs.Text.{face_line}
use Rattle.mesh_out.proofs.obj.push_faces.Given as goal

abbrev pub invariant-loop-places : goal.invariant-loop-places
invariant-loop-places l = record {
  text : l.out.items ++ take l.end l.lines ≡ l.initial.out.items
      ++ flat_map (face_line l.base) (take l.places-index l.triangles);
  room : l.end ≤ length l.lines;
}
