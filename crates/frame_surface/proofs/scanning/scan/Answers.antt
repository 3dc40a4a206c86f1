-- Each triangle is the one of its number in the mesh.
use Rattle.std.proofs.Common.{◌≡◌, length, subst, arith}
use Rattle.frame_surface.specs.Scan.{IsBestBefore}
use Rattle.frame_surface.proofs.scanning.scan.Goals as goal

pub loop-number-preserved : goal.loop-number-preserved
loop-number-preserved c = (
  c.scan_triangle-best.ensures.small,
  λ s shows before.
      c.scan_triangle-best.ensures.best s (shows.corners c.loop-number.number)
      (c.loop-number.invariant.1 s shows before),
)

pub returns-clause-best : goal.returns-clause-best
returns-clause-best c s shows before =
    let all : c.loop-number.number ≡ length c.args.view.triangles.now = omega arith in
    subst (λ t. IsBestBefore s c.args.at.x c.args.at.y c.args.node t c.loop-number.best) all
    (c.loop-number.invariant.1 s shows before)
