-- By the nodes' numbers, and by the list.
use Rattle.level_laws.proofs.AmongLemmas.{Contains-from, among_from, is_among-push, is_same_node-same, same_node}
use Rattle.level_laws.proofs.nodes.nodes_are_told_apart.Goals as goal

pub returns : goal.returns
returns c = record {
  same = λ a b. (same_node a b, is_same_node-same a b);
  among = λ nodes n. (Contains-from nodes n, among_from nodes n);
  more = is_among-push;
}
