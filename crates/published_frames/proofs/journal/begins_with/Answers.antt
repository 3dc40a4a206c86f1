-- Whether the journal begins with the other one, by the test of slices.
use Rattle.published_frames.proofs.EventLemmas.{begins_by_test}
use Rattle.published_frames.proofs.journal.begins_with.Goals as goal

pub returns : goal.returns
returns c =
    begins_by_test c.args.journal.now c.args.front.now c.starts_with.result
    c.starts_with.ensures.value
