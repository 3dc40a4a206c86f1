-- The set has just the nodes whose states are leaves'.
use Rattle.std.proofs.Common.{sym, ap, ◌∙◌}
use Rattle.mesh_board.specs.LeafStates.{LeafStates, is_leaf_state, state_at}
use Rattle.mesh_board.proofs.TableLemmas.{state_at-in}
use Rattle.mesh_board.proofs.leaf_table.LeafTable.leaves.Goals as goal

pub returns-clause-each : goal.returns-clause-each
returns-clause-each c n =
    c.self.invariant.listed n
    ∙ ap is_leaf_state (sym (state_at-in c.self.inside n c.self.invariant)
    ∙ ap (λ (s : LeafStates). state_at s n) c.self.view_is)
