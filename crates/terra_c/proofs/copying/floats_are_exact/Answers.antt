-- Units below 2 ^ 24 are exact.
use Rattle.terra_c.proofs.Floats.{exact}
use Rattle.terra_c.proofs.copying.floats_are_exact.Goals as goal

pub returns : goal.returns
returns c = exact
