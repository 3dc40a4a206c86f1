-- The derived comparison is by level, then k, then j, then i.
use Rattle.lattice.proofs.OrderLemmas.{nodes_ordered}
use Rattle.lattice.proofs.orders.order_of_nodes.Goals as goal

pub returns : goal.returns
returns c = nodes_ordered
