-- A number's decimal is read as the number, and written as it was.
use Rattle.std.proofs.Common.{◌≡◌, sym, ap, ◌∙◌, arith}
use Rattle.std.specs.Fmt.{decimal}
use Rattle.std.proofs.lemmas.Option.{none-some, same_Some}
use Rattle.std.proofs.lemmas.Bool.{false≢true}
use lib.Pointwise.{bytes_decides}
use Rattle.arguments.proofs.NumberLemmas.{read}
use Rattle.arguments.proofs.number.number.Goals as goal
use Rattle.arguments.proofs.number.number.Goals.{else-number-most-via-else-number-most, else-number-most-via-then-number-most+else-eq}

pub returns-in_err-number : goal.returns-in_err-number
returns-in_err-number c = λ n. (
  λ is. absurd (none-some n (sym c.in_err-number.was ∙ c.ok.ensures.value
      ∙ read c.args.argument.now c.args.most c.parse.result n c.ranges.most.fits
      c.parse.ensures.value.0 is)),
  λ e. absurd (none-some n (sym c.from_residual.ensures ∙ e)),
)

pub returns-then-eq : goal.returns-then-eq
returns-then-eq c = λ n. (
  λ is. sym c.in_ok-number.was ∙ c.ok.ensures.value
      ∙ read c.args.argument.now c.args.most c.parse.result n c.ranges.most.fits
      c.parse.ensures.value.0 is,
  λ e.
      (let same : c.in_ok-number.number ≡ n = same_Some c.in_ok-number.number n e in
      let written : c.format.result.now ≡ c.args.argument.now =
      (bytes_decides c.format.result.now c.args.argument.now).0 (sym c.if-eq.ensures) in (
        sym written ∙ c.format.ensures.text ∙ ap decimal same,
        omega (arith, same, c.if-number-most.true),
      )),
)

pub returns-else-number-most : goal.returns-else-number-most
returns-else-number-most c = λ n. (
  λ is.
      (let same : c.in_ok-number.number ≡ n =
      same_Some c.in_ok-number.number n (sym c.in_ok-number.was ∙ c.ok.ensures.value
      ∙ read c.args.argument.now c.args.most c.parse.result n c.ranges.most.fits
      c.parse.ensures.value.0 is) in
      elim c.else-number-most.branch [
        | else-number-most-via-then-number-most+else-eq w ↦
            (let written : w.format.result.now ≡ c.args.argument.now =
            w.format.ensures.text ∙ ap decimal same ∙ sym is.0 in
            absurd (false≢true (w.if-eq.ensures
            ∙ (bytes_decides w.format.result.now c.args.argument.now).1 written)))
        | else-number-most-via-else-number-most w ↦
            absurd (omega (arith, w.if-number-most.false, same, is.1))
      ]),
  λ e. absurd (none-some n e),
)
