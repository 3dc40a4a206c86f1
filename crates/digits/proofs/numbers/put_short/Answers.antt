-- The digits are those of a number of one, two, three and four, behind a blank.
use Rattle.std.proofs.Common.{[], ◌∷◌, get_or, sym, ap, ◌∙◌}
use Rattle.digits.proofs.DigitLemmas.{decimal-four, decimal-one, decimal-three, decimal-two, four-pairs, three-digits}
use Rattle.digits.proofs.LineLemmas.{puts-same}
use Rattle.digits.proofs.numbers.put_short.Goals as goal

pub returns-then-n-lt10-clause-line : goal.returns-then-n-lt10-clause-line
returns-then-n-lt10-clause-line c =
    puts-same _ _ _ _ _ _ c.put.ensures
    (ap (λ ds. 32 ∷ ds)
    (ap (λ d. d ∷ []) c.digit.ensures ∙ sym (decimal-one c.args.n c.if-n-lt10.true)))

pub returns-then-n-lt100-clause-line : goal.returns-then-n-lt100-clause-line
returns-then-n-lt100-clause-line c =
    puts-same _ _ _ _ _ _ c.put-then-n-lt100.ensures
    (ap (λ ds. 32 ∷ ds) (ap (λ ds. get_or ds 0 0 ∷ get_or ds 1 0 ∷ []) c.pair-both.ensures
    ∙ sym (decimal-two c.args.n c.if-n-lt10.false c.if-n-lt100.true)))

pub returns-then-n-lt1000-clause-line : goal.returns-then-n-lt1000-clause-line
returns-then-n-lt1000-clause-line c =
    puts-same _ _ _ _ _ _ c.put-then-n-lt1000.ensures
    (ap (λ ds. 32 ∷ ds) (three-digits c.args.n c.digit-then-n-lt1000.result c.pair-last.result
    c.digit-then-n-lt1000.ensures c.pair-last.ensures
    ∙ sym (decimal-three c.args.n c.if-n-lt100.false c.if-n-lt1000.true)))

pub returns-else-n-lt1000-clause-line : goal.returns-else-n-lt1000-clause-line
returns-else-n-lt1000-clause-line c =
    puts-same _ _ _ _ _ _ c.put-else-n-lt1000.ensures
    (ap (λ ds. 32 ∷ ds) (four-pairs c.args.n c.pair-first.result
    c.pair-last-else-n-lt1000.result c.requires.number c.pair-first.ensures
    c.pair-last-else-n-lt1000.ensures
    ∙ sym (decimal-four c.args.n c.if-n-lt1000.false c.requires.number)))
