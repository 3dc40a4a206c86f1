-- No leaf is out once all are recalled.
use Rattle.std.proofs.Common.{◌∙◌, sym}
use Rattle.mesh_board.specs.Board.{state_of}
use Rattle.mesh_jobs.proofs.SettleLemmas.{recalled-in}
use Rattle.mesh_jobs.proofs.meshing.settle_on.Goals as goal

pub mesh_wanted-requires : goal.mesh_wanted-requires
mesh_wanted-requires c n is =
    recalled-in (state_of c.args.board.now n) (sym (c.recall.ensures.states n) ∙ is)
