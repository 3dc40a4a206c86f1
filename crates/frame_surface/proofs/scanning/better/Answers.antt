-- The triangle's height takes the place of a lower hit, or of none.
use Rattle.std.proofs.Common.{◌*◌, ◌<◌, ◌≤◌, subst}
use Rattle.std.specs.Prelude.{IfSome}
use Rattle.frame_surface.specs.Heights.{IsHeight}
use Rattle.frame_surface.proofs.ScanLemmas.{better-kept, better-none, better-taken, lower-none, lower-some}
use Rattle.frame_surface.proofs.scanning.better.Goals as goal

pub returns-in_default-clause-best : goal.returns-in_default-clause-best
returns-in_default-clause-best c s x y covers most =
    better-none s x y c.args.node c.args.triangle c.args.best c.args.top c.in_default.is most

pub returns-in_default-best-clause-best : goal.returns-in_default-best-clause-best
returns-in_default-best-clause-best c s x y covers most before =
    let top = c.in-Some.top in
    rw (c.into.ensures, c.into-2.ensures)
    (better-taken s x y c.args.node c.args.triangle c.args.best c.args.top top c.in-Some.is covers
    most (lower-none s x y c.args.node c.args.triangle c.args.best top.num top.den
    c.in_default-best.is) before)

pub returns-then-is_higher-clause-best : goal.returns-then-is_higher-clause-best
returns-then-is_higher-clause-best c s x y covers most before =
    let top = c.in-Some.top in
    let old = c.in-Some-best.old in
    let higher : old.num * top.den < top.num * old.den =
    rw (c.into.ensures, c.into-2.ensures) at (c.is_higher.ensures.above c.if-is_higher.true) in
    rw (c.into.ensures, c.into-2.ensures)
    (better-taken s x y c.args.node c.args.triangle c.args.best c.args.top top c.in-Some.is covers
    most (lower-some s x y c.args.node c.args.triangle c.args.best old top.num top.den
    c.in-Some-best.is higher) before)

pub returns-else-is_higher-clause-best : goal.returns-else-is_higher-clause-best
returns-else-is_higher-clause-best c s x y covers most =
    let top = c.in-Some.top in
    let old = c.in-Some-best.old in
    let lower : top.num * old.den ≤ old.num * top.den =
    rw (c.into.ensures, c.into-2.ensures) at (c.is_higher.ensures.below c.if-is_higher.false) in
    better-kept s x y c.args.node c.args.triangle c.args.best c.args.top old top c.in-Some-best.is
    c.in-Some.is (subst (λ o. IfSome o IsHeight) c.in-Some.is c.requires.top) lower most
