-- The board's answer is the world's.
use Rattle.std.proofs.Common.{◌↔◌, IsTrue, subst}
use Rattle.mesh_board.specs.Board.{IsReady}
use Rattle.terra_world.specs.Game.{GameState}
use Rattle.terra_world.proofs.game.GameWorld.is_ready.Goals as goal

pub returns : goal.returns
returns c =
    subst (λ (game : GameState). IsTrue c.ready.result ↔ IsReady game.board) c.self.view_is
    c.ready.ensures
