-- The row is a step away.
use Rattle.std.proofs.Common.{◌+◌, get_or, ap, sym, ◌∙◌, subst}
use Rattle.terrain.specs.declared.brush.TheConstants.{MAX_SAMPLE}
use Rattle.field_pages.specs.Lent.{IsRowStep, list_lent, samples_lent, step_lent}
use Rattle.field_pages.proofs.page_rows.PageRows.stepped_row.Goals as goal

pub stepped_row-requires-clause-steps : goal.stepped_row-requires-clause-steps
stepped_row-requires-clause-steps c =
    subst (λ l. IsRowStep (list_lent l) (step_lent l)) c.in-Stepped.is c.args.self.now.steps

pub returns-clause-samples : goal.returns-clause-samples
returns-clause-samples c t t_in =
    c.stepped_row.ensures.samples t t_in
    ∙ ap (λ l. get_or (samples_lent l) (c.args.start + t) MAX_SAMPLE) (sym c.in-Stepped.is)
