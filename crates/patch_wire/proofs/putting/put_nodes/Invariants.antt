-- The pieces so far.
use Rattle.std.proofs.Common.{◌++◌, take}
use Rattle.std.specs.List.{flat_map}
use Rattle.mesh_out.specs.Writing.{Writes}
use Rattle.replicas.specs.Grammar.{node_bytes}
use Rattle.patch_wire.proofs.putting.put_nodes.Given as goal

abbrev pub invariant-loop-node : goal.invariant-loop-node
invariant-loop-node g l =
    Writes (g.K.Sink.state l.initial.sink) (g.K.Sink.state l.sink)
    (l.initial.batch ++ flat_map node_bytes (take l.node-index l.nodes)) l.batch
