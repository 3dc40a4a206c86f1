-- The leaves are the nodes that pass the test.
use Rattle.level_laws.proofs.LeafLemmas.{leaf_listed, leaf_test}
use Rattle.level_laws.proofs.leaves.leaves_are_listed.Goals as goal

pub returns : goal.returns
returns c = record { test = leaf_test; each = leaf_listed }
