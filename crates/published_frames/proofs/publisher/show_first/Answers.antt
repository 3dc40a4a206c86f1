-- The last of the pending operations is shown.
use Rattle.std.proofs.Common.{ap, subst, sym, ◌∙◌}
use Rattle.left_right.specs.Sides.{view as known}
use Rattle.published_frames.specs.Pasts.{Continues, past_of}
use Rattle.published_frames.specs.Rule.{known_first}
use Rattle.published_frames.proofs.Publishing.{by_both, last_shown, publishes_first}
use Rattle.published_frames.proofs.publisher.show_first.Goals as goal

pub publish_as-requires : goal.publish_as-requires
publish_as-requires g c next is =
    publishes_first _ _ _ next c.args.next.value
    (is ∙ last_shown (λ operation. operation.value) _ _ _ c.args.next c.in-Ok.ensures.pending)
    c.requires.sound
    (subst (λ desk. Continues c.args.next.value (past_of desk.shown.value.frame.value))
    (sym c.in-Ok.ensures.desk) c.requires.goes_on)

pub returns : goal.returns
returns g c =
    by_both c.publish_as.result.1
    (λ _ values rule.
    let shown = values.0
    ∙ last_shown (λ operation. operation.value) _ _ _ c.args.next c.in-Ok.ensures.pending in (
      shown,
      rule.known ∙ ap (λ desk. known_first (known desk.place)
          c.publish_as.result.0.desk.shown.value) c.in-Ok.ensures.desk,
    ))
    (λ _ values rule. tt)
    c.publish_as.ensures.values c.publish_as.ensures.rule
