-- The entered frame is of the viewer's series, and goes on from what was seen and from what was learnt.
use Rattle.std.proofs.Common.{ap, subst, ◌∙◌}
use Rattle.std.proofs.lemmas.List.Elements.{All-append}
use Rattle.left_right.specs.Sides.{view as known}
use Rattle.published_frames.specs.declared.known.Known.{Known}
use Rattle.published_frames.specs.Pasts.{Continues, GoesOnFromAll}
use Rattle.published_frames.specs.Seen.{pasts_of, seen_of}
use Rattle.published_frames.specs.States.{EnteredState, IsEntry}
use Rattle.published_frames.proofs.viewer.Viewer.enter_now.Goals as goal

pub returns-in-Ok : goal.returns-in-Ok
returns-in-Ok c =
    let frame = c.in-Ok.reading.part.value.frame.value in
    let learnt = subst (λ frame. GoesOnFromAll frame (pasts_of c.self.inside.learnt))
    (c.deref.ensures ∙ ap (λ shown. shown.frame.value) c.get.ensures)
    (c.is_before.ensures.0 c.if-is_before.true) in
    let entered : EnteredState =
    record { series = (known c.in-Ok.reading.place).series; frame = frame } in
    subst (λ viewer. IsEntry viewer entered) c.self.view_is
    (record {
      series = ap (λ (side : Known). side.series) c.in-Ok.ensures.known;
      later =
          All-append (Continues frame) (pasts_of c.self.inside.learnt)
          (seen_of c.self.inside.outside) learnt c.in-Ok.ensures.later;
    })
