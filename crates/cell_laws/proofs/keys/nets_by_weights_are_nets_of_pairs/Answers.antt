-- A pair of keys is told by the weight that is 1 for it alone.
use Rattle.cell_laws.proofs.KeysOf.{nets-from_weights}
use Rattle.cell_laws.proofs.keys.nets_by_weights_are_nets_of_pairs.Goals as goal

pub returns : goal.returns
returns c = nets-from_weights
