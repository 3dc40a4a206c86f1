-- The blocks so far.
use Rattle.std.proofs.Common.{◌≡◌, ◌*◌, ◌^◌, ◌≤◌, ◌++◌, take}
use Rattle.std.specs.List.{flat_map}
use Rattle.mesh_out.specs.Writing.{Writes}
use Rattle.replicas.specs.Replicas.{block_shown}
use Rattle.patch_wire.specs.Written.{blocks_at, blocks_text}
use Rattle.patch_wire.proofs.WrittenLemmas.{key_count}
use Rattle.patch_wire.proofs.text.write_blocks.Given as goal

abbrev pub invariant-loop-node : goal.invariant-loop-node
invariant-loop-node g l =
    let blocks = flat_map (blocks_at (block_shown l.replica)) (take l.node-index l.node-items) in
    Writes (g.K.Sink.state l.initial.sink) (g.K.Sink.state l.sink)
    (l.initial.text.items ++ blocks_text 0 blocks) l.text.items
    × (l.vertices ≡ key_count blocks)
    × (l.vertices ≤ 2 ^ 32 * l.node-index)
