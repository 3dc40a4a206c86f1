-- A triangle that lies beside the place covers nothing there, and any other one is compared by its greatest height.
use Rattle.std.proofs.Common.{sym, ◌∙◌, subst}
use Rattle.std.specs.Prelude.{IfSome}
use Rattle.frame_surface.specs.Heights.{Covers}
use Rattle.frame_surface.proofs.CornerLemmas.{beside-x, beside-y}
use Rattle.frame_surface.proofs.ScanLemmas.{unchanged}
use Rattle.frame_surface.proofs.scanning.scan_triangle.Goals as goal
use Rattle.frame_surface.proofs.scanning.scan_triangle.Goals.{then-is_beside-via-then-is_beside, then-is_beside-via-else-is_beside+then-is_beside-2}

pub returns-then-is_beside-clause-best : goal.returns-then-is_beside-clause-best
returns-then-is_beside-clause-best c s are =
    let corners = c.corners_at.result in
    let at = c.args.at in
    let is = are ∙ sym c.corners_at.ensures.corners in
    unchanged s at.x at.y c.args.node c.args.number c.args.best
    (λ n d covers.
    let own = subst (λ t. Covers t at.x at.y n d) is covers in
    elim c.then-is_beside.branch [
      | then-is_beside-via-then-is_beside w ↦
          beside-x corners.p corners.q corners.r at.x at.y n d own
          (c.is_beside.ensures w.if-is_beside.true)
      | then-is_beside-via-else-is_beside+then-is_beside-2 w ↦
          beside-y corners.p corners.q corners.r at.x at.y n d own
          (w.is_beside-else-is_beside.ensures w.if-is_beside-2.true)
    ])

pub returns-clause-best : goal.returns-clause-best
returns-clause-best c s are =
    let at = c.args.at in
    let is = are ∙ sym c.corners_at.ensures.corners in
    c.better.ensures.best s at.x at.y
    (subst (λ t. IfSome c.top.result (λ h. Covers t at.x at.y h.num h.den)) (sym is)
    c.top.ensures.covers)
    (λ n d covers. c.top.ensures.greatest n d (subst (λ t. Covers t at.x at.y n d) is covers))
