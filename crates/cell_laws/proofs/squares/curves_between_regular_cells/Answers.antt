-- The two cells see the square between them with opposite turns.
use Rattle.cell_laws.proofs.SquarePairs.{between-regular}
use Rattle.cell_laws.proofs.squares.curves_between_regular_cells.Goals as goal

pub returns : goal.returns
returns c = between-regular
