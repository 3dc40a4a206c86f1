-- To enter keeps the rule of publication.
use Rattle.std.proofs.Common.{subst, sym}
use Rattle.left_right.specs.Sides.{view as known}
use Rattle.published_frames.specs.Seen.{IsLetIn, seen_of, series_of}
use Rattle.published_frames.proofs.Publishing.{enters_again, enters_first, lets_in_again, lets_in_first}
use Rattle.published_frames.proofs.outside.Outside.enter.Goals as goal

pub enter_as-requires : goal.enter_as-requires
enter_as-requires c x = enters_first _ _ x

pub enter_as-requires-in-Refused : goal.enter_as-requires-in-Refused
enter_as-requires-in-Refused c x = enters_again _ _ x

pub returns-in-Ok : goal.returns-in-Ok
returns-in-Ok c =
    let reading = c.in-Ok.reading in
    subst (λ outside. IsLetIn (series_of outside) (seen_of outside) reading.part.value.frame.value
    (known reading.place)) (sym c.in-Left.is) (lets_in_first _ _ _ _ c.in-Ok.ensures.1)

pub returns-in-Ok-enter_as : goal.returns-in-Ok-enter_as
returns-in-Ok-enter_as c =
    let reading = c.in-Ok-enter_as.reading in
    subst (λ outside. IsLetIn (series_of outside) (seen_of outside) reading.part.value.frame.value
    (known reading.place)) (sym c.in-Refused.is) (lets_in_again _ _ _ _ c.in-Ok-enter_as.ensures.1)
