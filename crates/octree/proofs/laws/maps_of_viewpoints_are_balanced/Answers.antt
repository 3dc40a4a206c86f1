-- By the splits of each level.
use Rattle.octree.proofs.BalanceLemmas.{split_balanced}
use Rattle.octree.proofs.laws.maps_of_viewpoints_are_balanced.Goals as goal

pub returns : goal.returns
returns c = split_balanced
