-- The planes before are filled.
use Rattle.field_pages.specs.Pages.{sample_at}
use Rattle.bricks.specs.Parts.{Fills}
use Rattle.bricks.proofs.points.fill_points.Given as goal

abbrev pub invariant-loop-z : goal.invariant-loop-z
invariant-loop-z l =
    Fills (sample_at l.version) l.leaf (record { z = 0; y = 0; x = 0 })
    (record { z = l.z; y = 17; x = 17 }) l.initial.samples l.samples
