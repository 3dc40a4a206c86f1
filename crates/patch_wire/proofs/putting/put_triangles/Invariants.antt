-- The pieces so far.
use Rattle.std.proofs.Common.{◌++◌, take}
use Rattle.std.specs.List.{flat_map}
use Rattle.mesh_out.specs.Writing.{Writes}
use Rattle.replicas.specs.Grammar.{triangle_bytes}
use Rattle.patch_wire.proofs.putting.put_triangles.Given as goal

abbrev pub invariant-loop-places : goal.invariant-loop-places
invariant-loop-places g l =
    Writes (g.K.Sink.state l.initial.sink) (g.K.Sink.state l.sink)
    (l.initial.batch ++ flat_map triangle_bytes (take l.places-index l.triangles)) l.batch
