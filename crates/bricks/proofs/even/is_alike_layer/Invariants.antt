-- The rows of pages so far have the likeness.
use Rattle.std.proofs.Common.{◌+◌, ◌*◌, ◌<◌}
use Rattle.lattice.specs.declared.point.Point.{Point}
use Rattle.field_pages.specs.Pages.{sample_at}
use Rattle.bricks.specs.Even.{HasLikeness, IsInPageLayer}
use Rattle.bricks.proofs.even.is_alike_layer.Given as goal

abbrev pub invariant-loop-page : goal.invariant-loop-page
invariant-loop-page l =
    (p : Point) → IsInPageLayer l.from l.pages p → p.y < l.from.y + 16 * l.page
    → HasLikeness l.likeness (sample_at l.version p)
