-- It is as far on as there are zeros at the number's end.
use Rattle.std.proofs.Common.{w64}
use Rattle.std.proofs.lemmas.Nat.Bits.{bit_at-trailing_zeros}
use Rattle.block_mesh.proofs.SetBitLemmas.{first-within, some-set}
use Rattle.block_mesh.proofs.signs.first_set.Goals as goal

pub returns-clause-within : goal.returns-clause-within
returns-clause-within c = first-within c.args.bits 16 c.ranges.bits.fits c.requires

pub returns-clause-set : goal.returns-clause-set
returns-clause-set c =
    (bit_at-trailing_zeros w64 c.args.bits (some-set c.args.bits 16 c.requires)
    c.ranges.bits.fits).1

pub returns-clause-before : goal.returns-clause-before
returns-clause-before c =
    (bit_at-trailing_zeros w64 c.args.bits (some-set c.args.bits 16 c.requires)
    c.ranges.bits.fits).2
