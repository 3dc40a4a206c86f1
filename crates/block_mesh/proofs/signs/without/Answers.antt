-- The bit is taken out, and no other.
use Rattle.std.proofs.Common.{w64, arith}
use Rattle.std.proofs.lemmas.Nat.Bits.{bit_at_clear_other, bit_at_clear_same}
use Rattle.block_mesh.proofs.signs.without.Goals as goal

pub returns-clause-gone : goal.returns-clause-gone
returns-clause-gone c =
    bit_at_clear_same w64 c.args.bits c.args.place (omega (arith, c.requires))

pub returns-clause-kept : goal.returns-clause-kept
returns-clause-kept c = λ k within other.
    bit_at_clear_other w64 c.args.bits c.args.place (omega (arith, c.requires)) k
    (omega (arith, within)) other
