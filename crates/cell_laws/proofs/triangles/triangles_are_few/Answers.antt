-- A test of all sign numbers, and sums over a leaf's cells.
use Rattle.cell_laws.proofs.FewTriangles.{leaf_few, regular_few, transition_few}
use Rattle.cell_laws.proofs.triangles.triangles_are_few.Goals as goal

pub returns : goal.returns
returns c = record { regular = regular_few; transition = transition_few; leaf = leaf_few }
