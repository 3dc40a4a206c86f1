-- No bit is set.
use Rattle.node_tables.proofs.SetLemmas.{IsNodeSet-changed, has-none}
use Rattle.node_tables.proofs.set.NodeSet.clear.Goals as goal

pub invariant_of-self : goal.invariant_of-self
invariant_of-self c =
    IsNodeSet-changed (record { depth = c.self.inside.depth; words = c.self.inside.bits })
    c.clear_all.new.self c.self.invariant c.clear_all.ensures.long
    (λ p set. let unset = c.clear_all.ensures.none p in absurd (cc))

pub returns-clause-none : goal.returns-clause-none
returns-clause-none c n =
    has-none (record { depth = c.self.inside.depth; words = c.clear_all.new.self })
    c.clear_all.ensures.none n
