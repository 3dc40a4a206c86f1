-- One more word is changed, bit by bit.
use Rattle.std.proofs.Common.{refl, arith}
use Rattle.node_tables.proofs.WordLemmas.{Changed-all, Changed-more, or_words}
use Rattle.node_tables.proofs.words.set_all.Goals as goal

pub loop-i-preserved : goal.loop-i-preserved
loop-i-preserved c =
    Changed-more _ _ _ _ _ _ (omega arith) (λ k k_in. or_words _ _ k) c.loop-i.invariant

pub returns : goal.returns
returns c = Changed-all _ _ _ _ _ (omega arith) (omega arith) refl c.loop-i.invariant
