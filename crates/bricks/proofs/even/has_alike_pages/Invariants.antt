-- The layers of pages so far have the likeness.
use Rattle.std.proofs.Common.{◌+◌, ◌*◌, ◌<◌}
use Rattle.lattice.specs.declared.point.Point.{Point}
use Rattle.field_pages.specs.Pages.{sample_at}
use Rattle.lattice.specs.Node.{cube}
use Rattle.lattice.specs.Region.{IsWithin}
use Rattle.bricks.specs.Even.{HasLikeness}
use Rattle.bricks.proofs.even.has_alike_pages.Given as goal

abbrev pub invariant-loop-page : goal.invariant-loop-page
invariant-loop-page l =
    (p : Point) → IsWithin (cube l.fn.leaf) p → p.z < l.low.z + 16 * l.page
    → HasLikeness l.likeness (sample_at l.version p)
