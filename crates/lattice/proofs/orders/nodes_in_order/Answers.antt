-- The list is ordered by level, then k, then j, then i.
use Rattle.lattice.proofs.SlotLemmas.{node_listed, nodes_rise, before_test}
use Rattle.lattice.proofs.orders.nodes_in_order.Goals as goal

pub returns : goal.returns
returns c = record { each = node_listed; rising = nodes_rise; test = before_test }
