-- Byte by byte.
use Rattle.std.proofs.Common.{refl}
use Rattle.replicas.specs.Grammar.{point_bytes, two}
use Rattle.patch_wire.proofs.events.cuboid_bytes.Goals as goal

pub returns : goal.returns
unfolding point_bytes two
returns c = rw (c.mode_byte.ensures, c.point_bytes.ensures, c.point_bytes-2.ensures) refl
