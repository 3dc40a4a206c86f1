-- How large the numbers of the computation of positions are.
-- Source: this project's rule.
use Rattle.std.specs.Prelude.{ℕ, ◌*◌}
use Rattle.lattice.specs.declared.point.TheConstants.{UNITS}
use Rattle.lattice.specs.declared.settings.TheConstants.{MAX_SIDE}

-- how far from 0 an end of a key lies at most on an axis after its move, in 1/256 cell
abbrev pub MOST : ℕ
MOST = 2 * UNITS * MAX_SIDE
