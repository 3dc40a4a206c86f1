-- The board's answer is the world's.
use Rattle.std.proofs.Common.{◌≢◌, ◌↔◌, IsTrue, subst}
use Rattle.lattice.specs.declared.node.Node.{Node}
use Rattle.mesh_board.specs.Board.{state_of}
use Rattle.mesh_board.specs.LeafStates.{wanted}
use Rattle.terra_world.specs.Game.{GameState}
use Rattle.terra_world.proofs.game.GameWorld.wants_nothing.Goals as goal

pub returns : goal.returns
returns c =
    let IsSo : GameState → Type 0 = λ game.
    IsTrue c.wants_nothing.result ↔ ((n : Node) → state_of game.board n ≢ wanted) in
    subst IsSo c.self.view_is c.wants_nothing.ensures
