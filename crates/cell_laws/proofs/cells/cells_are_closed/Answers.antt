-- The faces of each cell are closed, by a test of all sign numbers.
use Rattle.cell_laws.proofs.CellsAreClosed.{regular_closed, transition_closed}
use Rattle.cell_laws.proofs.cells.cells_are_closed.Goals as goal

pub returns : goal.returns
returns c = record { regular = regular_closed; transition = transition_closed }
