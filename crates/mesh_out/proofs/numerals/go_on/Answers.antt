-- The last digit is one more.
use Rattle.std.proofs.Common.{arith, refl, rules}
use Rattle.mesh_out.proofs.NextLemmas.{next-numeral}
use Rattle.mesh_out.proofs.numerals.go_on.Goals as goal

pub returns-then-last-lt57 : goal.returns-then-last-lt57
returns-then-last-lt57 c =
    next-numeral c.args.base c.args.place c.args.numeral.now.len c.args.numeral.now refl
    (omega (arith, c.requires.base_fits, c.requires.place)) (search rules) c.requires.numeral
    c.if-last-lt57.true
