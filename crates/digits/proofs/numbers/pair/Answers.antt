-- The entry is the number's two digits.
use Rattle.digits.proofs.DigitLemmas.{pair-at}
use Rattle.digits.proofs.numbers.pair.Goals as goal

pub returns : goal.returns
returns c = pair-at c.args.n _ c.requires
