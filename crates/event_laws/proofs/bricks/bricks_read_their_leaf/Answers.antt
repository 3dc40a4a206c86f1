-- All points of a brick are in its leaf's cube, and its rim says which of its faces are transitional.
use Rattle.lattice.proofs.SizeLemmas.{corner_inside}
use Rattle.event_laws.proofs.BrickLemmas.{brick-same, brick-world}
use Rattle.event_laws.proofs.bricks.bricks_read_their_leaf.Goals as goal

pub returns : goal.returns
returns c = record {
  leaf = brick-same;
  world = λ settings events s n node.
      brick-world settings events s n (corner_inside settings.depth n node);
}
