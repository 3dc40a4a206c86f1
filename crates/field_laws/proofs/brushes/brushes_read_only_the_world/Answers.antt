-- A shape reads the point alone, and smoothing its clamped neighbours.
use Rattle.field_laws.proofs.BrushLemmas.{reads_world}
use Rattle.field_laws.proofs.brushes.brushes_read_only_the_world.Goals as goal

pub returns : goal.returns
returns c = reads_world
