-- The tally has the edges of the triangles so far, and room for the others'.
use Rattle.std.proofs.Common.{◌*◌, ◌-◌, length, take}
use Rattle.terrain.specs.Curves.{all_edges}
use Rattle.audits.specs.Tally.{HasRoomFor, IsTallyOf}
use Rattle.audits.proofs.audit.Audit.of_triangles.Given as goal

abbrev pub invariant-loop-a : goal.invariant-loop-a
invariant-loop-a l = record {
  room : HasRoomFor l.tally (3 * (length l.triangles - l.a-index));
  counts : IsTallyOf l.tally (all_edges (take l.a-index l.triangles));
}
