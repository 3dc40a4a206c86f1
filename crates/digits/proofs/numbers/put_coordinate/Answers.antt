-- The cells, and behind them the point and the eight digits.
use Rattle.std.proofs.Common.{◌/◌, refl}
use Rattle.lattice.specs.declared.point.TheConstants.{UNITS}
use Rattle.digits.proofs.LineLemmas.{coordinate-parts, puts-more, puts-same}
use Rattle.digits.proofs.numbers.put_coordinate.Goals as goal

pub returns-clause-line : goal.returns-clause-line
returns-clause-line c =
    puts-same _ _ _ _ _ _
    (puts-more _ _ _ _ _ _ _ _ c.put_cells-point.ensures.line c.put_fraction.ensures.line)
    (coordinate-parts c.args.units (c.args.units / UNITS) refl)
