-- The blocks of the members so far are there, and the others are still to come.
use Rattle.std.proofs.Common.{◌≡◌, ◌++◌, map}
use Rattle.std.specs.Arc.{arc_value}
use Rattle.node_tables.specs.Members.{members, members_left}
use Rattle.mesh_board.specs.LeafStates.{fresh, state_at}
use Rattle.mesh_board.proofs.patching.blocks_of.Given as goal

abbrev pub invariant-loop-leaf : goal.invariant-loop-leaf
invariant-loop-leaf l = record {
  made : map (λ done. fresh (arc_value done)) l.blocks.items ≡ map (state_at l.leaves) l.yielded;
  rest : members l.nodes ≡ l.yielded ++ members_left l.leaf-iterator;
}
