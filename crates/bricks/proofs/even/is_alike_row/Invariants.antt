-- The pages so far have the likeness.
use Rattle.lattice.specs.declared.point.Point.{Point}
use Rattle.field_pages.specs.Pages.{sample_at}
use Rattle.bricks.specs.Even.{HasLikeness, IsInPageRow}
use Rattle.bricks.proofs.even.is_alike_row.Given as goal

abbrev pub invariant-loop-page : goal.invariant-loop-page
invariant-loop-page l =
    (p : Point) → IsInPageRow l.from l.page p → HasLikeness l.likeness (sample_at l.version p)
