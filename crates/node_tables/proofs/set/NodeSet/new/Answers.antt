-- No bit is set.
use Rattle.std.proofs.Common.{◌∙◌}
use Rattle.node_tables.proofs.SetLemmas.{has-none}
use Rattle.node_tables.proofs.set.NodeSet.new.Goals as goal

pub invariant_of-result : goal.invariant_of-result
invariant_of-result c = record {
  depth = c.requires;
  long = c.in_ok-bits.ensures.long ∙ c.words_for.ensures.value;
  spare = λ p set. let unset = c.in_ok-bits.ensures.none p in absurd (cc);
}

pub returns-clause-none : goal.returns-clause-none
returns-clause-none c =
    has-none (record { depth = c.args.depth; words = c.in_ok-bits.bits })
    c.in_ok-bits.ensures.none
