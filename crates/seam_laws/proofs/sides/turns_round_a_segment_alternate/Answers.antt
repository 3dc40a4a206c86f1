-- By which of the four nodes are split.
use Rattle.seam_laws.proofs.SideLemmas.{turns-alternate}
use Rattle.seam_laws.proofs.sides.turns_round_a_segment_alternate.Goals as goal

pub returns : goal.returns
returns c = λ depth m axis along n balanced n_in b_in d_in c_in.
    turns-alternate depth m balanced axis along n n_in b_in d_in c_in
