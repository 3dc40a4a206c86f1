-- The samples are compared in the form that they have.
use Rattle.std.proofs.Common.{ℤ, SFits, w8, rules, sym, subst}
use Rattle.std.proofs.lemmas.Int.{to_z-of_z}
use Rattle.field_pages.specs.Pages.{sample_at}
use Rattle.bricks.specs.Samples.{AreSamplesOf}
use Rattle.bricks.specs.declared.samples.Samples.{Samples}
use Rattle.bricks.specs.declared.samples.Samples.TheVariants.{Even}
use Rattle.bricks.proofs.brick.has_samples.Goals as goal

pub returns-in-Even : goal.returns-in-Even
returns-in-Even c =
    let sample : ℤ = c.in-Even.sample in
    let fits : SFits w8 sample = search rules in
    let are : Samples → Type 0 =
    AreSamplesOf (sample_at c.args.version.now) c.args.leaf c.args.rim in
    let all : ℤ → Type 0 = λ v. are (Even v) in (
      (λ on. subst are (sym c.in-Even.is)
          (subst all (to_z-of_z w8 sample fits) (c.has_one_sample.ensures.0 on))),
      (λ all_are. c.has_one_sample.ensures.1
          (subst all (sym (to_z-of_z w8 sample fits)) (subst are c.in-Even.is all_are))),
    )
