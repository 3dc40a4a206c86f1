-- Where every leaf is fresh, none is wanted.
use Rattle.std.proofs.lemmas.Result.{on_ok_weaker}
use Rattle.mesh_board.specs.Board.{state_of}
use Rattle.standing_workers.proofs.FeedingLemmas.{settled-not_wanted}
use Rattle.standing_workers.proofs.feeding.mesh_all.Goals as goal

pub returns-clause-handed : goal.returns-clause-handed
returns-clause-handed c =
    on_ok_weaker c.settle.result
    (λ ready n. settled-not_wanted (state_of c.settle.new.board n) (ready n))
    c.settle.ensures.ready
