-- A triangle with area covers one height, where the place is a mean of its corners, and else none.
use Rattle.std.proofs.Common.{arith}
use Rattle.frame_surface.proofs.CornerLemmas.{mean_of, of_corners, weighed-covers, weighed-greatest}
use Rattle.frame_surface.proofs.corners.top.Goals as goal

pub returns-in_err-weights-clause-greatest : goal.returns-in_err-weights-clause-greatest
returns-in_err-weights-clause-greatest c n d covers =
    let at = c.args.at in
    let h = of_corners c.args.p c.args.q c.args.r at.x at.y n d covers in
    absurd (c.in_err-weights.ensures.outside h.u h.v h.w (omega (arith, h.some, h.sum))
    (mean_of c.args.p c.args.q c.args.r at n d h))

pub returns-clause-covers : goal.returns-clause-covers
returns-clause-covers c =
    rw (c.weighed.ensures.value, c.weighed-2.ensures.value, c.weighed-3.ensures.value)
    (weighed-covers c.args.p c.args.q c.args.r c.args.at c.in_ok-weights.weights
    c.in_ok-weights.ensures.inside (omega arith))

pub returns-clause-greatest : goal.returns-clause-greatest
returns-clause-greatest c =
    rw (c.weighed.ensures.value, c.weighed-2.ensures.value, c.weighed-3.ensures.value)
    (weighed-greatest c.args.p c.args.q c.args.r c.args.at c.in_ok-weights.weights
    c.in_ok-weights.ensures.inside)
