-- Around the plane no node is switched, and the parents' planes are the same.
use Rattle.octree.proofs.changed.LevelPair.is_quiet.Goals as goal

pub returns-then-same : goal.returns-then-same
returns-then-same c on = record {
  around = c.requires c.if-same.true;
  parents = c.has_same_plane_above.ensures on;
}
