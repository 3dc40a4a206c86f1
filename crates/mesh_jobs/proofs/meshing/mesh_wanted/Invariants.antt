-- The board so far, and how many leaves are wanted still.
use Rattle.std.proofs.Common.{◌≡◌, ◌≢◌}
use Rattle.block_mesh.specs.Done.{DoneState}
use Rattle.lattice.specs.declared.node.Node.{Node}
use Rattle.mesh_board.specs.Board.{state_of}
use Rattle.mesh_board.specs.LeafStates.{fresh, out}
use Rattle.mesh_jobs.proofs.SettleLemmas.{wanted_count}
use Rattle.mesh_jobs.proofs.meshing.mesh_wanted.Given as goal

abbrev pub invariant-loop-block : goal.invariant-loop-block
invariant-loop-block l = record {
  world : l.board.world ≡ l.fn.board.world;
  marked : l.board.marked ≡ l.fn.board.marked;
  fresh_ : (n : Node) (done : DoneState) → state_of l.fn.board n ≡ fresh done
      → state_of l.board n ≡ fresh done;
  none_out : (n : Node) → state_of l.board n ≢ out;
}

abbrev pub decreases-loop-block : goal.decreases-loop-block
decreases-loop-block l = wanted_count l.board.leaves
