-- Case by case.
use Rattle.seam_laws.proofs.SideLemmas.{cells-beside}
use Rattle.seam_laws.proofs.sides.squares_have_two_cells_or_none.Goals as goal

pub returns : goal.returns
returns c = λ depth m axis n balanced. cells-beside depth m balanced axis n
