-- The test of keys passes exactly for equal keys.
use Rattle.cell_laws.proofs.KeysOf.{key_test}
use Rattle.cell_laws.proofs.keys.keys_are_told_apart.Goals as goal

pub returns : goal.returns
returns c = key_test
