-- The curves of the squares of both kinds of cell.
use Rattle.cell_laws.proofs.SquareFaces.{regular-square, coarse-square, fine-square}
use Rattle.cell_laws.proofs.squares.curves_of_squares.Goals as goal

pub returns : goal.returns
returns c = record { regular = regular-square; coarse = coarse-square; fine = fine-square }
