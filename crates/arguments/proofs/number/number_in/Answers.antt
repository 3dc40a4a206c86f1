-- A number that isn't below the least.
use Rattle.std.proofs.Common.{◌≡◌, sym, ◌∙◌, arith}
use Rattle.std.proofs.lemmas.Option.{same_Some}
use Rattle.arguments.proofs.number.number_in.Goals as goal

pub returns-then-n-least-clause-number : goal.returns-then-n-least-clause-number
returns-then-n-least-clause-number c = λ n. (
  λ is. sym c.in_ok-n.was ∙ (c.number.ensures n).0 (is.0, is.2),
  λ e.
      (let same : c.in_ok-n.n ≡ n = same_Some c.in_ok-n.n n e in
      let is = (c.number.ensures n).1 (c.in_ok-n.was ∙ e) in
      (is.0, omega (arith, same, c.if-n-least.true), is.1)),
)

pub returns-then-n-least-clause-range : goal.returns-then-n-least-clause-range
returns-then-n-least-clause-range c =
    (c.if-n-least.true, ((c.number.ensures c.in_ok-n.n).1 c.in_ok-n.was).1)
