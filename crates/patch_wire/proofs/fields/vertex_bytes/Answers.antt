-- Byte by byte.
use Rattle.std.proofs.Common.{refl}
use Rattle.replicas.specs.Grammar.{four, point_bytes, two, vertex_bytes}
use Rattle.patch_wire.proofs.fields.vertex_bytes.Goals as goal

pub returns : goal.returns
unfolding vertex_bytes point_bytes two four
returns c =
    rw (
      c.axis_byte.ensures,
      c.point_bytes.ensures,
      c.to_le_bytes.ensures,
      c.to_le_bytes-2.ensures,
      c.to_le_bytes-3.ensures,
    ) refl
