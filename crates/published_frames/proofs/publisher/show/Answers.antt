-- The last of the pending operations is shown.
use Rattle.std.proofs.Common.{ap, subst, sym, ◌∙◌}
use Rattle.left_right.specs.Sides.{view as known}
use Rattle.published_frames.specs.Pasts.{Continues, past_of}
use Rattle.published_frames.specs.Rule.{known_next}
use Rattle.published_frames.proofs.Publishing.{by_both, last_shown, publishes}
use Rattle.published_frames.proofs.publisher.show.Goals as goal

pub publish_as-requires : goal.publish_as-requires
publish_as-requires g c next is =
    publishes _ _ _ next c.args.next.value
    (is ∙ last_shown (λ operation. operation.value) _ _ _ c.args.next c.in-Ok.ensures.pending)
    c.requires.sound
    (subst (λ desk. Continues c.args.next.value (past_of desk.shown.value.frame.value))
    (sym c.in-Ok.ensures.desk) c.requires.goes_on)

pub returns : goal.returns
returns g c =
    by_both c.publish_as.result.1
    (λ _ values rule.
    let shown = values.0
    ∙ last_shown (λ operation. operation.value) _ _ _ c.args.next c.in-Ok.ensures.pending in (
      shown,
      rule.known ∙ ap (λ desk. known_next (known desk.place)
          c.publish_as.result.0.desk.shown.value) c.in-Ok.ensures.desk,
    ))
    (λ _ values rule. (
      values.0 ∙ ap (λ desk. desk.shown.value) c.in-Ok.ensures.desk,
      rule ∙ ap (λ desk. known desk.place) c.in-Ok.ensures.desk,
    ))
    c.publish_as.ensures.values c.publish_as.ensures.rule
