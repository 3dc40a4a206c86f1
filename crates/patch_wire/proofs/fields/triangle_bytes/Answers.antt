-- Byte by byte.
use Rattle.std.proofs.Common.{ap, sym}
use Rattle.replicas.specs.Grammar.{four, triangle_bytes}
use Rattle.replicas.proofs.SpellLemmas.{three-is}
use Rattle.patch_wire.proofs.fields.triangle_bytes.Goals as goal

pub returns : goal.returns
unfolding triangle_bytes four
returns c =
    rw (c.to_le_bytes.ensures, c.to_le_bytes-2.ensures, c.to_le_bytes-3.ensures)
    (sym (ap triangle_bytes (three-is c.args.places.now c.told-places)))
