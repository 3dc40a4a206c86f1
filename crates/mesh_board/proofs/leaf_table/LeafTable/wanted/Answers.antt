-- The set has just the nodes that are wanted.
use Rattle.std.proofs.Common.{sym, ap, ◌∙◌}
use Rattle.mesh_board.specs.LeafStates.{LeafStates, is_wanted_state, state_at}
use Rattle.mesh_board.proofs.TableLemmas.{listed-is, state_at-in}
use Rattle.mesh_board.proofs.leaf_table.LeafTable.wanted.Goals as goal

pub returns : goal.returns
returns c n =
    listed-is c.self.inside n c.self.invariant
    ∙ ap is_wanted_state (sym (state_at-in c.self.inside n c.self.invariant)
    ∙ ap (λ (s : LeafStates). state_at s n) c.self.view_is)
