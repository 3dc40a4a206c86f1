-- Sides cancel.
use Rattle.seam_laws.proofs.LateralRows.{sides-cancel}
use Rattle.seam_laws.proofs.seams.sides_cancel.Goals as goal

pub returns : goal.returns
returns c = sides-cancel
