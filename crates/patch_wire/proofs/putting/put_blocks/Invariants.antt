-- The pieces so far.
use Rattle.std.proofs.Common.{◌++◌, take}
use Rattle.std.specs.Arc.{arc_value}
use Rattle.std.specs.List.{flat_map}
use Rattle.mesh_out.specs.Writing.{Writes}
use Rattle.replicas.specs.Grammar.{block_bytes}
use Rattle.patch_wire.specs.Puttable.{wire_block}
use Rattle.patch_wire.proofs.putting.put_blocks.Given as goal

abbrev pub invariant-loop-done : goal.invariant-loop-done
invariant-loop-done g l =
    Writes (g.K.Sink.state l.initial.sink) (g.K.Sink.state l.sink)
    (l.initial.batch ++ flat_map (λ done. block_bytes (wire_block (arc_value done)))
    (take l.done-index l.dones)) l.batch
