-- The derived comparison is by z, then y, then x.
use Rattle.lattice.proofs.OrderLemmas.{points_ordered}
use Rattle.lattice.proofs.orders.order_of_points.Goals as goal

pub returns : goal.returns
returns c = points_ordered
