-- The literal is one unit.
use Rattle.std.proofs.Common.{ap, false, negsuc}
use Rattle.std.specs.Float.Ieee
use Rattle.std.specs.Float.{binary32, fin}
use Rattle.terra_c.proofs.Floats.{unit_is}
use Rattle.terra_c.proofs.copying.cells.Goals as goal

pub returns : goal.returns
returns c =
    rw unit_is
    (ap (λ x. Ieee.mul binary32 (fin false 1 (negsuc 7)) x) c.nearest_u32_to_f32.ensures)
