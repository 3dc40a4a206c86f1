-- The bit of the place is changed, and the others are kept.
use Rattle.node_tables.proofs.WordLemmas.{has_bit-set, has_bit-set_other}
use Rattle.node_tables.proofs.words.set.Goals as goal

pub returns-clause-here : goal.returns-clause-here
returns-clause-here c = has_bit-set _ _ c.requires

pub returns-clause-others : goal.returns-clause-others
returns-clause-others c p apart = has_bit-set_other _ _ p c.requires apart
