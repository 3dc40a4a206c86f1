-- What a replica shows of its pieces.
use Rattle.replicas.proofs.ShowLemmas.{all-shown, fed-step, new-fed, shows}
use Rattle.replicas.proofs.shows.replicas_show_what_comes_of_their_bytes.Goals as goal

pub returns : goal.returns
returns c = record { pieces = all-shown; new = new-fed; more = fed-step; shown = shows }
