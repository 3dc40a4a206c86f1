-- The haul is of the round, for which the helper was asked.
use Rattle.std.proofs.Common.{◌≡◌, Some, get_or, rules, set, subst, sym}
use Rattle.std.specs.Arc.{arc_value}
use Rattle.errands.specs.Ends.{HasAsked}
use Rattle.mesh_jobs.specs.Round.{IsHaulOf}
use Rattle.mesh_pool.proofs.pool.+mesh_with.Goals as goal

pub keep_haul-requires-in-Some-clause-haul : goal.keep_haul-requires-in-Some-clause-haul
keep_haul-requires-in-Some-clause-haul g t c =
    let same : get_or (set c.split_at_mut-first.result.0.now 0 c.ask.new.self) 0
    c.index-first-0-in-Ok.result ≡ c.ask.new.self = search rules in
    let round : arc_value c.in-Ok.theirs ≡ c.deref-in-Some.result.now = search rules in
    subst (λ r. IsHaulOf r c.in-Some.haul) round
    (c.in-Some.ensures.haul c.in-Ok.theirs
    (subst (λ post. HasAsked (arc_value post.exchange) (Some c.in-Ok.theirs) post.asker)
    (sym same) c.ask.ensures.asked))
