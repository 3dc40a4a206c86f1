-- The vertices so far: those that were appended, and behind them those that are gathered.
use Rattle.std.proofs.Common.{◌≡◌, ◌≤◌, ◌++◌, length, take, flat_map}
use Rattle.mesh_out.specs.Text.{vertex_line}
use Rattle.mesh_out.proofs.obj.push_vertices.Given as goal

abbrev pub invariant-loop-position : goal.invariant-loop-position
invariant-loop-position l = record {
  text : l.out.items ++ take l.end l.lines ≡ l.initial.out.items
      ++ flat_map vertex_line (take l.position-index l.positions);
  room : l.end ≤ length l.lines;
}
