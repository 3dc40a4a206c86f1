-- A row out of the table has the samples of the page, and so has one that is a step away.
use Rattle.std.proofs.Common.{◌+◌, get_or, ap, sym, ◌∙◌, subst, arith}
use Rattle.terrain.specs.declared.brush.TheConstants.{MAX_SAMPLE}
use Rattle.field_pages.specs.Even.{IsExtent}
use Rattle.field_pages.specs.Lent.{IsRowStep, extent_lent, list_lent, samples_lent, step_lent}
use Rattle.field_pages.proofs.EvenLemmas.{get_or-even}
use Rattle.field_pages.proofs.page_rows.PageRows.row.Goals as goal

pub row-requires-clause-extent : goal.row-requires-clause-extent
row-requires-clause-extent c =
    subst (λ l. IsExtent (extent_lent l)) c.in-Even.is c.args.self.now.extent

pub returns-in-Even-clause-samples : goal.returns-in-Even-clause-samples
returns-in-Even-clause-samples c t t_in =
    let page = c.in-Even.page in
    let start = c.args.start in
    c.row.ensures.samples t t_in
    ∙ sym (get_or-even page (start + t) MAX_SAMPLE
    (omega (arith, t_in, c.requires.start, c.requires.within)))
    ∙ ap (λ l. get_or (samples_lent l) (start + t) MAX_SAMPLE) (sym c.in-Even.is)

pub stepped_row-requires-clause-steps : goal.stepped_row-requires-clause-steps
stepped_row-requires-clause-steps c =
    subst (λ l. IsRowStep (list_lent l) (step_lent l)) c.in-Stepped.is c.args.self.now.steps

pub returns-in-Stepped-clause-samples : goal.returns-in-Stepped-clause-samples
returns-in-Stepped-clause-samples c t t_in =
    c.stepped_row.ensures.samples t t_in
    ∙ ap (λ l. get_or (samples_lent l) (c.args.start + t) MAX_SAMPLE) (sym c.in-Stepped.is)
