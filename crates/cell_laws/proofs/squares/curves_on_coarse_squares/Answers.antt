-- The two cells see the coarse square with opposite turns.
use Rattle.cell_laws.proofs.SquarePairs.{on-coarse}
use Rattle.cell_laws.proofs.squares.curves_on_coarse_squares.Goals as goal

pub returns : goal.returns
returns c = on-coarse
