-- One more block is of the round.
use Rattle.std.proofs.lemmas.List.Elements.{All-push, All-same}
use Rattle.std.specs.Arc.{arc_value}
use Rattle.mesh_jobs.specs.Round.{IsMadeOf}
use Rattle.mesh_jobs.proofs.round.Round.work.Goals as goal

pub loop-preserved : goal.loop-preserved
loop-preserved c =
    All-same (λ done. IsMadeOf c.args.self.now (arc_value done)) _ _ c.in-Ok-push.ensures.items
    (All-push (λ done. IsMadeOf c.args.self.now (arc_value done)) c.loop.haul.made.items
    c.in-Ok.done c.loop.invariant c.in-Ok.ensures)
