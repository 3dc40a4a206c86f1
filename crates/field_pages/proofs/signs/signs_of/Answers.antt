-- The branch is that of the two tests.
use Rattle.std.proofs.Common.{Bool, cond, ap, sym, ◌∙◌}
use Rattle.field_pages.proofs.SignLemmas.{signs-by}
use Rattle.field_pages.proofs.signs.signs_of.Goals as goal
use Rattle.field_pages.specs.declared.signs.Signs.TheVariants.{Empty, Solid, Mixed}

pub returns-then-none : goal.returns-then-none
returns-then-none c =
    let told = c.none_and_all_are_solid-none in
    sym (ap (λ (b : Bool). cond b Empty (cond told.result.1 Solid Mixed)) c.if-none.true)
    ∙ signs-by c.args.samples.now told.result.0 told.result.1 told.ensures.none told.ensures.all

pub returns-then-all : goal.returns-then-all
returns-then-all c =
    let told = c.none_and_all_are_solid-none in
    sym (λ i. cond (c.if-none.false i) Empty (cond (c.if-all.true i) Solid Mixed))
    ∙ signs-by c.args.samples.now told.result.0 told.result.1 told.ensures.none told.ensures.all

pub returns-else-all : goal.returns-else-all
returns-else-all c =
    let told = c.none_and_all_are_solid-none in
    sym (λ i. cond (c.if-none.false i) Empty (cond (c.if-all.false i) Solid Mixed))
    ∙ signs-by c.args.samples.now told.result.0 told.result.1 told.ensures.none told.ensures.all
