-- The table has the cases so far.
use Rattle.terrain.specs.Cells.{transition_faces}
use Rattle.cells.specs.Cases.{AreCases}
use Rattle.cells.proofs.cases.transition_cases.Given as goal

abbrev pub invariant-loop-signs : goal.invariant-loop-signs
invariant-loop-signs l = AreCases (transition_faces l.face) 16 l.signs l.cases.items
