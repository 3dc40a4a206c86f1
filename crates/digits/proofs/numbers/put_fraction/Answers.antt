-- The entry is the point and the eight digits.
use Rattle.std.proofs.Common.{[], get_or}
use Rattle.digits.specs.declared.digit_tables.TheConstants.{FRACTIONS}
use Rattle.digits.proofs.DigitLemmas.{fraction, fraction-at}
use Rattle.digits.proofs.LineLemmas.{puts-same}
use Rattle.digits.proofs.numbers.put_fraction.Goals as goal

pub returns-clause-line : goal.returns-clause-line
returns-clause-line c =
    puts-same c.args.line.now c.put.new.line c.args.at c.put.result
    (get_or FRACTIONS c.args.units []) (fraction c.args.units) c.put.ensures
    (fraction-at c.args.units [] c.requires.units)
