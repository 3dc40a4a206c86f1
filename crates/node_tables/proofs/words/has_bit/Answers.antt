-- The test of a bit is its digit.
use Rattle.std.proofs.Common.{ap}
use Rattle.std.specs.Prelude.{◌==◌}
use Rattle.std.proofs.lemmas.Nat.Bits.{shr_and_one}
use Rattle.node_tables.specs.NodeBits.{has_bit}
use Rattle.node_tables.proofs.words.has_bit.Goals as goal

pub returns : goal.returns
unfolding has_bit
returns c = ap (λ b. b == 1) (shr_and_one _ _)
