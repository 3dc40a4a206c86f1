-- The table has the cases so far.
use Rattle.terrain.specs.Cells.{regular_faces}
use Rattle.cells.specs.Cases.{AreCases}
use Rattle.cells.proofs.cases.regular_cases.Given as goal

abbrev pub invariant-loop-signs : goal.invariant-loop-signs
invariant-loop-signs l = AreCases regular_faces 12 l.signs l.cases.items
