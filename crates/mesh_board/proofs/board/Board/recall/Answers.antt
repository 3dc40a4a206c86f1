-- The leaves stay leaves, and the fresh ones fresh.
use Rattle.mesh_board.proofs.BoardLemmas.{AreParts-recalled}
use Rattle.mesh_board.proofs.board.Board.recall.Goals as goal

pub invariant_of-self : goal.invariant_of-self
invariant_of-self c =
    AreParts-recalled c.self.inside c.recall.new.self c.self.invariant c.recall.ensures.depth
    c.recall.ensures.each
