-- Each brush clamps what it makes.
use Rattle.field_laws.proofs.BrushLemmas.{brush_range, eighth_range, field_range, history_range}
use Rattle.field_laws.proofs.brushes.samples_stay_in_range.Goals as goal

pub returns : goal.returns
returns c = record {
  eighth = eighth_range;
  brush = brush_range;
  edits = field_range;
  history = history_range;
}
