-- What is at most the smaller height is at most the greater one.
use Rattle.std.proofs.Common.{◌≡◌, ℕ, ◌*◌, ◌≤◌, subst, sym, arith}
use Rattle.std.specs.Prelude.{IfSome, Option, Some}
use Rattle.frame_surface.proofs.HeightLemmas.{through}
use Rattle.frame_surface.specs.Heights.{IsAtMost, IsHeight}
use Rattle.frame_surface.specs.declared.height.Height.{Height}
use Rattle.frame_surface.proofs.height.greater.Goals as goal

-- a height that is there
height_of : (a : Option Height) (h : Height) → a ≡ Some h → IfSome a IsHeight → IsHeight h
height_of a h is all = subst (λ o. IfSome o IsHeight) is all

-- where both heights are there
above : (n d : ℕ) (a b : Option Height) (first second : Height) → a ≡ Some first
    → b ≡ Some second → IsHeight first
    → first.num * second.den ≤ second.num * first.den → IsAtMost n d a → IsAtMost n d b
above n d a b first second is_a is_b height order low =
    let small : IsAtMost n d (Some first) = subst (IsAtMost n d) is_a low in
    subst (IsAtMost n d) (sym is_b)
    (through n d first.num first.den second.num second.den height.some small order)

pub returns-then-is_above-clause-above_a : goal.returns-then-is_above-clause-above_a
returns-then-is_above-clause-above_a c n d =
    above n d c.args.a c.args.b c.in-Some-Some.first c.in-Some-Some.second c.in-Some-Some.is-0
    c.in-Some-Some.is-1 (height_of c.args.a c.in-Some-Some.first c.in-Some-Some.is-0 c.requires.a)
    (omega (arith, c.is_above.ensures.above c.if-is_above.true))

pub returns-else-is_above-clause-above_b : goal.returns-else-is_above-clause-above_b
returns-else-is_above-clause-above_b c n d =
    above n d c.args.b c.args.a c.in-Some-Some.second c.in-Some-Some.first c.in-Some-Some.is-1
    c.in-Some-Some.is-0 (height_of c.args.b c.in-Some-Some.second c.in-Some-Some.is-1 c.requires.b)
    (c.is_above.ensures.below c.if-is_above.false)
