-- Where all rows begin at one place, each is the first one.
use Rattle.std.proofs.Common.{◌≡◌, ◌%◌, get_or, ap, sym, ◌∙◌, subst}
use Rattle.std.proofs.lemmas.Bool.{eqb-true}
use Rattle.terrain.specs.declared.brush.TheConstants.{MAX_SAMPLE}
use Rattle.field_pages.specs.Lent.{samples_lent, stepped}
use Rattle.field_pages.proofs.StepLemmas.{stepped-none}
use Rattle.field_pages.proofs.page_rows.PageRows.has_one_row.Goals as goal

pub returns-in-Stepped-clause-rows : goal.returns-in-Stepped-clause-rows
returns-in-Stepped-clause-rows c = λ none k k_in.
    let samples = c.in-Stepped.field-0.now in
    let step_is = eqb-true c.in-Stepped.step 0 none in
    let lent = ap samples_lent c.in-Stepped.is ∙ ap (stepped samples) step_is in
    subst (λ xs. get_or xs k MAX_SAMPLE ≡ get_or xs (k % 16) MAX_SAMPLE) (sym lent)
    (stepped-none samples k k_in)
