-- No crack between blocks, by balance across faces.
use Rattle.seam_laws.proofs.Balance.{face-balanced}
use Rattle.seam_laws.proofs.NoCrack.{no-crack}
use Rattle.seam_laws.proofs.seams.no_crack_by_faces.Goals as goal

pub returns : goal.returns
returns c = record { weights = no-crack; balanced = face-balanced }
