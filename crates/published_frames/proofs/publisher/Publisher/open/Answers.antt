-- The frame that is shown first is shown once more.
use Rattle.std.proofs.Common.{ap, sym, ◌∙◌}
use Rattle.published_frames.proofs.Publishing.{goes_on_same}
use Rattle.published_frames.proofs.publisher.Publisher.open.Goals as goal

pub show_first-writer-requires-clause-goes_on : goal.show_first-writer-requires-clause-goes_on
show_first-writer-requires-clause-goes_on g c =
    goes_on_same _ _
    (c.in_ok-next.ensures ∙ sym (ap (λ shown. shown.frame.value) c.in_ok-writer.ensures.0
    ∙ c.in_ok-try_clone.ensures))
