-- What was put begins with the text.
use Rattle.std.proofs.Common.{arith, rules}
use Rattle.digits.proofs.LineLemmas.{puts-first}
use Rattle.mesh_out.proofs.numerals.put_numeral.Goals as goal

pub returns-clause-line : goal.returns-clause-line
returns-clause-line c =
    puts-first _ _ _ _ _ _ c.put-behind.ensures (search rules) (omega (arith, c.requires.room))
