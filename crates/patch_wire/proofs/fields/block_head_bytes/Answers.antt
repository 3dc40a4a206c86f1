-- Byte by byte.
use Rattle.std.proofs.Common.{refl}
use Rattle.replicas.specs.Grammar.{four, node_bytes, two}
use Rattle.patch_wire.proofs.fields.block_head_bytes.Goals as goal

pub returns : goal.returns
unfolding node_bytes two four
returns c = rw (c.node_bytes.ensures, c.to_le_bytes.ensures, c.to_le_bytes-2.ensures) refl
