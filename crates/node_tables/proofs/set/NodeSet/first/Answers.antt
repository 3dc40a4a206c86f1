-- The first member from slot 0 on is the first.
use Rattle.node_tables.proofs.SetLemmas.{first-or_none}
use Rattle.node_tables.proofs.set.NodeSet.first.Goals as goal

pub returns-clause-first : goal.returns-clause-first
returns-clause-first c =
    first-or_none c.args.self.now c.first_from.result
    c.first_from.ensures.first
