-- No crack between blocks.
use Rattle.seam_laws.proofs.Balance.{face-balanced}
use Rattle.seam_laws.proofs.NoCrack.{no-crack, no-crack-pairs, no-crack-inside}
use Rattle.seam_laws.proofs.seams.no_crack.Goals as goal

pub returns : goal.returns
returns c = record {
  weights = λ s depth m balanced. no-crack s depth m (face-balanced depth m balanced);
  pairs = λ s depth m balanced a b. no-crack-pairs s depth m (face-balanced depth m balanced) a b;
  inside = λ s depth m balanced a b off. no-crack-inside s depth m (face-balanced depth m balanced)
      a b off;
}
