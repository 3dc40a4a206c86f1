-- The two cells see the fine square with opposite turns.
use Rattle.cell_laws.proofs.SquarePairs.{on-fine}
use Rattle.cell_laws.proofs.squares.curves_on_fine_squares.Goals as goal

pub returns : goal.returns
returns c = on-fine
