-- Off its region a shape's value is at least the greatest sample.
use Rattle.field_laws.proofs.BrushLemmas.{keeps_off_region}
use Rattle.field_laws.proofs.brushes.brushes_keep_samples_off_their_region.Goals as goal

pub returns : goal.returns
returns c = keeps_off_region
