-- The curves and the turn of each lateral face.
use Rattle.cell_laws.proofs.SquareSegments.{lateral-face, lateral-turn}
use Rattle.cell_laws.proofs.squares.curves_of_lateral_faces.Goals as goal

pub returns : goal.returns
returns c = record { curves = lateral-face; turn = lateral-turn }
