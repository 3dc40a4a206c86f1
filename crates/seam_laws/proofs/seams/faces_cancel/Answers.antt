-- Faces cancel.
use Rattle.seam_laws.proofs.FaceSums.{faces-cancel}
use Rattle.seam_laws.proofs.seams.faces_cancel.Goals as goal

pub returns : goal.returns
returns c = faces-cancel
