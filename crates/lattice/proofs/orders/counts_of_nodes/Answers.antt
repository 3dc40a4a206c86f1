-- Each level has the nodes of its cube.
use Rattle.lattice.proofs.CountLemmas.{all_and_root, level_most, nodes_most, none_below, one_level_more}
use Rattle.lattice.proofs.SlotLemmas.{length-level_nodes}
use Rattle.lattice.proofs.orders.counts_of_nodes.Goals as goal

pub returns : goal.returns
returns c = record {
  level = length-level_nodes;
  none = none_below;
  more = one_level_more;
  all = all_and_root;
  level_most = level_most;
  most = nodes_most;
}
