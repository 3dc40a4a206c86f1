-- The pieces so far.
use Rattle.std.proofs.Common.{◌++◌, take}
use Rattle.std.specs.List.{flat_map}
use Rattle.mesh_out.specs.Writing.{Writes}
use Rattle.replicas.specs.Grammar.{event_bytes}
use Rattle.patch_wire.proofs.putting.put_events.Given as goal

abbrev pub invariant-loop-event : goal.invariant-loop-event
invariant-loop-event g l =
    Writes (g.K.Sink.state l.initial.sink) (g.K.Sink.state l.sink)
    (l.initial.batch ++ flat_map event_bytes (take l.event-index l.events)) l.batch
