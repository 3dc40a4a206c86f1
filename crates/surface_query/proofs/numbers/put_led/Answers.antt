-- The two bytes are set over the blank and what was before it.
use Rattle.std.proofs.Common.{decimal, refl, arith}
use Rattle.surface_query.proofs.LedLemmas.{led}
use Rattle.surface_query.proofs.numbers.put_led.Goals as goal

pub returns-clause-line : goal.returns-clause-line
returns-clause-line c =
    led c.args.line.now c.put_spaced-end.new.line _ c.args.at c.put_spaced-end.result 32
    c.args.first c.args.second (decimal c.args.n) c.put_spaced-end.ensures.line
    (omega (arith, c.requires)) refl
