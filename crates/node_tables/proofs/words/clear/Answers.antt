-- The bit of the place is changed, and the others are kept.
use Rattle.node_tables.proofs.WordLemmas.{has_bit-clear, has_bit-clear_other}
use Rattle.node_tables.proofs.words.clear.Goals as goal

pub returns-clause-here : goal.returns-clause-here
returns-clause-here c = has_bit-clear _ _ c.requires

pub returns-clause-others : goal.returns-clause-others
returns-clause-others c p apart = has_bit-clear_other _ _ p c.requires apart
