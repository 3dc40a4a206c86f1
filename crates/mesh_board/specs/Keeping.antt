-- What meshing leaves as it is, whatever comes of it.
-- Source: this project's rule.
use Rattle.std.specs.Prelude.{◌≡◌}
use Rattle.lattice.specs.declared.node.Node.{Node}
use Rattle.block_mesh.specs.Done.{DoneState}
use Rattle.mesh_board.specs.Board.{BoardState, state_of}
use Rattle.mesh_board.specs.LeafStates.{fresh}

-- the world and the mark stay, and a fresh leaf stays fresh
pub record KeepsFresh (old new : BoardState) : Type 0 where
  pub world : new.world ≡ old.world
  pub marked : new.marked ≡ old.marked
  pub fresh_leaves : (n : Node) (done : DoneState) → state_of old n ≡ fresh done
      → state_of new n ≡ fresh done
