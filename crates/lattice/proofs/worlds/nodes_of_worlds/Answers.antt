-- A world is a part of each deeper one, and a row of nodes is as long as the world.
use Rattle.lattice.proofs.SizeLemmas.{corner_inside, node_of_greatest, point_of_greatest}
use Rattle.lattice.proofs.TestLemmas.{node_test}
use Rattle.lattice.proofs.worlds.nodes_of_worlds.Goals as goal

pub returns : goal.returns
returns c = record {
  node = node_of_greatest;
  point = point_of_greatest;
  corner = corner_inside;
  test = node_test;
}
