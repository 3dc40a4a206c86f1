-- Events act on the edits in force one after another.
use Rattle.field_laws.proofs.BrushLemmas.{grows}
use Rattle.field_laws.proofs.brushes.histories_grow_by_events.Goals as goal

pub returns : goal.returns
returns c = grows
