-- Each key is an edge of the leaf's cells, or of the level below on its faces.
use Rattle.terrain.specs.History.{sample}
use Rattle.terrain.specs.Levels.{levels, viewpoints}
use Rattle.frame_surface.proofs.SurfaceLemmas.{keys-known}
use Rattle.frame_surface.proofs.laws.keys_of_leaves_are_in_their_world.Goals as goal

pub returns : goal.returns
returns c rules history n leaf =
    keys-known rules.depth (sample rules history) (levels rules history) n
    (c.maps_of_viewpoints_are_balanced.ensures rules (viewpoints history)) leaf
