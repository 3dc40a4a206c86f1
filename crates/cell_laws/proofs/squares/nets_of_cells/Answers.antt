-- The nets of both kinds of cell.
use Rattle.cell_laws.proofs.SquareNets.{regular-cell-net, transition-cell-net}
use Rattle.cell_laws.proofs.squares.nets_of_cells.Goals as goal

pub returns : goal.returns
returns c = record { regular = regular-cell-net; transition = transition-cell-net }
