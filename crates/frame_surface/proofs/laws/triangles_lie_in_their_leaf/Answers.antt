-- All keys of the leaf's block lie in its cube, as its level map is balanced.
use Rattle.terrain.specs.Levels.{viewpoints}
use Rattle.frame_surface.proofs.SurfaceLemmas.{surface-lies}
use Rattle.frame_surface.proofs.laws.triangles_lie_in_their_leaf.Goals as goal

pub returns : goal.returns
returns c rules history n i =
    surface-lies rules history n c.fine_points_stay.ensures
    (c.maps_of_viewpoints_are_balanced.ensures rules (viewpoints history)) i
