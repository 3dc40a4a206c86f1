-- What covers a place is a mean of corners, which lie in their leaf.
use Rattle.frame_surface.proofs.SurfaceLemmas.{stands}
use Rattle.frame_surface.proofs.laws.surfaces_stand_over_their_nodes.Goals as goal

pub returns : goal.returns
returns c rules history =
    stands rules history (c.triangles_lie_in_their_leaf.ensures rules history)
