-- The heights are those of marks on the line, by y where all corners stand over the place's x.
use Rattle.std.proofs.Common.{inl, inr}
use Rattle.frame_surface.proofs.CornerLemmas.{level-top, upright-top}
use Rattle.frame_surface.proofs.corners.top_of_flat.Goals as goal
use Rattle.frame_surface.proofs.corners.top_of_flat.Goals.{else-p-at-via-then-p-at+then-q-at+else-r-at, else-p-at-via-then-p-at+else-q-at, else-p-at-via-else-p-at}

pub returns-then-r-at-clause-covers : goal.returns-then-r-at-clause-covers
returns-then-r-at-clause-covers c =
    upright-top c.args.p c.args.q c.args.r c.args.at c.by_y.result c.by_y-then-r-at.result
    c.by_y-then-r-at-2.result c.top_of_three.result c.if-p-at.true c.if-q-at.true c.if-r-at.true
    c.by_y.ensures c.by_y-then-r-at.ensures c.by_y-then-r-at-2.ensures
    c.top_of_three.ensures.covers

pub returns-else-p-at-clause-covers : goal.returns-else-p-at-clause-covers
returns-else-p-at-clause-covers c =
    level-top c.args.p c.args.q c.args.r c.args.at c.by_x.result c.by_x-else-p-at.result
    c.by_x-else-p-at-2.result c.top_of_three-else-p-at.result c.requires.flat
    (elim c.else-p-at.branch [
      | else-p-at-via-then-p-at+then-q-at+else-r-at w ↦ inr (inr w.if-r-at.false)
      | else-p-at-via-then-p-at+else-q-at w ↦ inr (inl w.if-q-at.false)
      | else-p-at-via-else-p-at w ↦ inl w.if-p-at.false
    ]) c.by_x.ensures c.by_x-else-p-at.ensures c.by_x-else-p-at-2.ensures
    c.top_of_three-else-p-at.ensures.covers
