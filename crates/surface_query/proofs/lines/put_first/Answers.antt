-- What was put begins with the text.
use Rattle.std.proofs.Common.{ap, arith, rules, take}
use Rattle.digits.proofs.LineLemmas.{puts-same}
use Rattle.surface_query.proofs.PieceLemmas.{puts-first}
use Rattle.surface_query.proofs.lines.put_first.Goals as goal

pub returns-clause-line : goal.returns-clause-line
returns-clause-line c =
    puts-same _ _ _ _ _ _
    (puts-first _ _ _ _ _ _ c.put-behind.ensures (search rules) (omega (arith, c.requires.room)))
    (ap (λ n. take n c.args.corner.bytes) c.from.ensures)
