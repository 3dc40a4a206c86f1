-- By the events one after another.
use Rattle.event_laws.proofs.ChangeLemmas.{is_touched-more, is_touched-nil}
use Rattle.event_laws.proofs.changes.touched_nodes_add_up.Goals as goal

pub returns : goal.returns
returns c = record { none = is_touched-nil; more = is_touched-more }
