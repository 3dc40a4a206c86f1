-- Heads by their last two bytes, patches part by part.
use Rattle.replicas.proofs.ApartLemmas.{head-apart, patch-apart}
use Rattle.replicas.proofs.laws.no_spelling_begins_another.Goals as goal

pub returns-clause-heads : goal.returns-clause-heads
returns-clause-heads c = head-apart

pub returns-clause-patches : goal.returns-clause-patches
returns-clause-patches c = patch-apart
