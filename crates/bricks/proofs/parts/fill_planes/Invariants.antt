-- The planes before are filled.
use Rattle.std.proofs.Common.{◌≡◌, ◌^◌}
use Rattle.lattice.specs.declared.node.Node.{Node}
use Rattle.terrain.specs.Samples.{Field}
use Rattle.bricks.specs.Parts.{FillsLines, HaveParts, page_samples}
use Rattle.bricks.proofs.parts.fill_planes.Given as goal

abbrev pub invariant-loop-plane : goal.invariant-loop-plane
invariant-loop-plane l =
    (s : Field) (n : Node) → 2 ^ n.level ≡ l.stride
    → HaveParts s n l.z l.y l.side (page_samples l.pages)
    → FillsLines s n l.z l.y l.plane l.side l.initial.samples l.samples
