-- The lines before are filled.
use Rattle.std.proofs.Common.{◌+◌}
use Rattle.field_pages.specs.Pages.{sample_at}
use Rattle.bricks.specs.Parts.{Fills}
use Rattle.bricks.proofs.points.fill_plane.Given as goal

abbrev pub invariant-loop-y : goal.invariant-loop-y
invariant-loop-y l =
    Fills (sample_at l.version) l.leaf (record { z = l.z; y = 0; x = 0 })
    (record { z = l.z + 1; y = l.y; x = 17 }) l.initial.samples l.samples
