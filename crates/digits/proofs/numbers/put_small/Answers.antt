-- The entry begins with the text of the number.
use Rattle.std.proofs.Common.{[], ap, arith, get_or, rules, take, ◌∙◌}
use Rattle.digits.specs.declared.digit_tables.TheConstants.{SMALLS}
use Rattle.digits.proofs.DigitLemmas.{small-at}
use Rattle.digits.proofs.LineLemmas.{puts-first, puts-same}
use Rattle.digits.proofs.numbers.put_small.Goals as goal

pub returns-clause-line : goal.returns-clause-line
returns-clause-line c =
    puts-same _ _ _ _ _ _
    (puts-first _ _ _ _ _ _ c.put-behind.ensures (search rules)
    (omega (arith, c.requires.room)))
    (ap (λ k. take k (get_or SMALLS c.args.n [])) c.small_len.ensures.text
    ∙ small-at c.args.n [] c.requires.number)
