-- One, two and three digits behind a blank.
use Rattle.std.proofs.Common.{◌∷◌, ap, arith, length, sym}
use Rattle.digits.proofs.DigitLemmas.{decimal-one, decimal-three, decimal-two}
use Rattle.digits.proofs.numbers.small_len.Goals as goal

pub returns-then-n-lt10-clause-text : goal.returns-then-n-lt10-clause-text
returns-then-n-lt10-clause-text c =
    sym (ap (λ ds. length (32 ∷ ds)) (decimal-one c.args.n c.if-n-lt10.true))

pub returns-then-n-lt100-clause-text : goal.returns-then-n-lt100-clause-text
returns-then-n-lt100-clause-text c =
    sym (ap (λ ds. length (32 ∷ ds))
    (decimal-two c.args.n c.if-n-lt10.false c.if-n-lt100.true))

pub returns-else-n-lt100-clause-text : goal.returns-else-n-lt100-clause-text
returns-else-n-lt100-clause-text c =
    sym (ap (λ ds. length (32 ∷ ds))
    (decimal-three c.args.n c.if-n-lt100.false (omega (arith, c.requires))))
