-- Each curve starts where none did.
use Rattle.std.proofs.Common.{◌++◌, take, Some, ◌+◌, slice_set, slice_index_or, sym, subst, arith}
use Rattle.std.proofs.lemmas.List.{take_all, get_or_default}
use Rattle.face_curves.specs.Followers.{Follows}
use Rattle.face_curves.proofs.Follows.{Follows-more}
use Rattle.face_curves.proofs.followers.Followers.insert.Goals as goal

pub loop-curve-preserved : goal.loop-curve-preserved
loop-curve-preserved c = λ cs follows apart.
    let i = c.loop-curve.curve-index in
    let curve = slice_index_or c.args.curves.now i record { start = 0; end = 0 } in
    let more = Follows-more cs c.args.curves.now c.loop-curve.self.ends i curve (omega arith)
    (get_or_default c.args.curves.now i _ _ (omega arith))
    (c.requires i _ (omega arith)).0 apart (c.loop-curve.invariant cs follows apart) in
    subst (λ at. Follows (cs ++ take (i + 1) c.args.curves.now)
    (slice_set c.loop-curve.self.ends at (Some curve.end))) (sym c.from.ensures) more

pub returns : goal.returns
returns c = λ cs follows apart.
    subst (λ ds. Follows (cs ++ ds) c.loop-curve.self.ends)
    (take_all c.loop-curve.curve-index c.args.curves.now (omega arith))
    (c.loop-curve.invariant cs follows apart)
