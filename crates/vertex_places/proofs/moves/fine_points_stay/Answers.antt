-- Across each axis from the leaf, an octant is whole or outside the world.
use Rattle.vertex_places.proofs.FinePoints.{fine_point_stays}
use Rattle.vertex_places.proofs.moves.fine_points_stay.Goals as goal

pub returns : goal.returns
returns c = fine_point_stays c.balance_splits_nodes_beside_split_ones.ensures.segments
