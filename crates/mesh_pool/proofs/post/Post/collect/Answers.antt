-- What answers the errand is a haul of the round.
use Rattle.std.proofs.Common.{Some, subst}
use Rattle.std.specs.Prelude.{IfSome}
use Rattle.std.specs.Arc.{arc_value}
use Rattle.errands.specs.Ends.{HasAsked}
use Rattle.mesh_jobs.specs.Round.{IsHaulOf}
use Rattle.mesh_pool.proofs.post.Post.collect.Goals as goal

pub returns-clause-haul : goal.returns-clause-haul
returns-clause-haul g c =
    subst (λ exchange. IfSome c.collect-haul.result (λ haul. (round : _)
    → HasAsked exchange (Some round) c.args.self.now.asker → IsHaulOf (arc_value round) haul))
    c.deref.ensures c.collect-haul.ensures.answers
