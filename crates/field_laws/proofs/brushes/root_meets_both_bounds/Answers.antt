-- The root rises by one where the next square is met.
use Rattle.field_laws.proofs.BrushLemmas.{root_low, root_high, root_only}
use Rattle.field_laws.proofs.brushes.root_meets_both_bounds.Goals as goal

pub returns : goal.returns
returns c = record { low = root_low; high = root_high; only = root_only }
