-- The lines before are filled.
use Rattle.lattice.specs.declared.node.Node.{Node}
use Rattle.terrain.specs.Samples.{Field}
use Rattle.bricks.specs.Parts.{FillsLines, HavePlane, page_samples}
use Rattle.bricks.proofs.parts.fill_plane.Given as goal

abbrev pub invariant-loop-line : goal.invariant-loop-line
invariant-loop-line l =
    (s : Field) (n : Node)
    → HavePlane s n l.stride l.z l.y l.side (page_samples l.pages) l.from
    → FillsLines s n l.z l.y 1 l.line l.initial.samples l.samples
