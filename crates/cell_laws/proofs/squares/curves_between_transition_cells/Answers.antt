-- The two cells see the lateral face between them with opposite turns.
use Rattle.cell_laws.proofs.SquareSegments.{between-laterals}
use Rattle.cell_laws.proofs.squares.curves_between_transition_cells.Goals as goal

pub returns : goal.returns
returns c = between-laterals
