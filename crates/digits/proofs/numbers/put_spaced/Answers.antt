-- A long number has the digits of a shorter one, and four more.
use Rattle.std.proofs.Common.{◌∷◌, ap, sym}
use Rattle.digits.proofs.DigitLemmas.{decimal-more}
use Rattle.digits.proofs.LineLemmas.{puts-more, puts-same}
use Rattle.digits.proofs.numbers.put_spaced.Goals as goal

pub returns-clause-line : goal.returns-clause-line
returns-clause-line c =
    puts-same _ _ _ _ _ _
    (puts-more _ _ _ _ _ _ _ _ c.put_short-first.ensures.line c.put_four.ensures)
    (ap (λ ds. 32 ∷ ds) (sym (decimal-more c.args.n c.if-n-lt10000.false c.ranges.n.fits)))
