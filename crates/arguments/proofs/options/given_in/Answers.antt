-- One option after another.
use Rattle.std.proofs.Common.{sym, ◌∙◌}
use Rattle.std.proofs.lemmas.Option.{none-some}
use Rattle.arguments.proofs.OptionsLemmas.{gives-behind, gives-no_option}
use Rattle.arguments.proofs.options.given_in.Goals as goal

pub returns-in_err-given-clause-given : goal.returns-in_err-given-clause-given
returns-in_err-given-clause-given c = λ given. (
  λ gives.
      absurd (gives-no_option c.loop-rest.given c.loop-rest.rest.now given
      c.in-len2-up.len_at_least
      (λ next. (
        λ is. sym c.in_err-given.was ∙ (c.and.ensures.given next).0 is,
        λ e. (c.and.ensures.given next).1 (c.in_err-given.was ∙ e),
      ))
      ((c.loop-rest.invariant.1 given).0 gives)),
  λ e. absurd (none-some given (sym c.from_residual.ensures ∙ e)),
)

pub loop-rest-preserved : goal.loop-rest-preserved
loop-rest-preserved c = (
  c.in_ok-given.ensures.allowed,
  λ given.
      (let behind = gives-behind c.loop-rest.given c.in_ok-given.given c.loop-rest.rest.now given
      c.in-len2-up.len_at_least
      (λ next. (
        λ is. sym c.in_ok-given.was ∙ (c.and.ensures.given next).0 is,
        λ e. (c.and.ensures.given next).1 (c.in_ok-given.was ∙ e),
      )) in (
        λ gives. behind.0 ((c.loop-rest.invariant.1 given).0 gives),
        λ gives. (c.loop-rest.invariant.1 given).1 (behind.1 gives),
      )),
)
