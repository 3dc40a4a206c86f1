-- Leaves that are settled aren't wanted.
use Rattle.std.proofs.Common.{◌≢◌}
use Rattle.mesh_board.specs.LeafStates.{IsSettled, LeafState, fresh, no_leaf, out, wanted}

-- a leaf that is settled isn't wanted
pub settled-not_wanted : (state : LeafState) → IsSettled state → state ≢ wanted
settled-not_wanted no_leaf settled is = cc
settled-not_wanted wanted settled is = absurd settled
settled-not_wanted out settled is = absurd settled
settled-not_wanted (fresh done) settled is = cc
