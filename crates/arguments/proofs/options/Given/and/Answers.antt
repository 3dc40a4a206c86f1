-- A name is that of one option alone.
use Rattle.std.proofs.Common.{inl, inr}
use Rattle.arguments.proofs.OptionsLemmas.{watch-no_looks, workers-no_looks, workers-no_watch}
use Rattle.arguments.proofs.options.Given.and.Goals as goal

pub returns-in-text-clause-given : goal.returns-in-text-clause-given
returns-in-text-clause-given c = λ given. (
  λ next.
      elim next [
        | inl is ↦ (c.and_workers.ensures.given given).0 is.1
        | inr other ↦ elim other [
          | inl is ↦ absurd (workers-no_watch c.args.name.now c.in-text.is is.0)
          | inr is ↦ absurd (workers-no_looks c.args.name.now c.in-text.is is.0)
        ]
      ],
  λ e. inl (c.in-text.is, (c.and_workers.ensures.given given).1 e),
)

pub returns-in-text-2-clause-given : goal.returns-in-text-2-clause-given
returns-in-text-2-clause-given c = λ given. (
  λ next.
      elim next [
        | inl is ↦ absurd (workers-no_watch c.args.name.now is.0 c.in-text-2.is)
        | inr other ↦ elim other [
          | inl is ↦ (c.and_watchers.ensures.given given).0 is.1
          | inr is ↦ absurd (watch-no_looks c.args.name.now c.in-text-2.is is.0)
        ]
      ],
  λ e. inr (inl (c.in-text-2.is, (c.and_watchers.ensures.given given).1 e)),
)

pub returns-in-text-3-clause-given : goal.returns-in-text-3-clause-given
returns-in-text-3-clause-given c = λ given. (
  λ next.
      elim next [
        | inl is ↦ absurd (workers-no_looks c.args.name.now is.0 c.in-text-3.is)
        | inr other ↦ elim other [
          | inl is ↦ absurd (watch-no_looks c.args.name.now is.0 c.in-text-3.is)
          | inr is ↦ (c.and_looks.ensures.given given).0 is.1
        ]
      ],
  λ e. inr (inr (c.in-text-3.is, (c.and_looks.ensures.given given).1 e)),
)
