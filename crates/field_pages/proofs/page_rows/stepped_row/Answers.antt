-- A row lies among the samples, and has the page's.
use Rattle.std.proofs.Common.{◌*◌, sym, ◌∙◌, arith}
use Rattle.std.proofs.lemmas.List.{get_or-drop, get_or-take}
use Rattle.terrain.specs.declared.brush.TheConstants.{MAX_SAMPLE}
use Rattle.field_pages.proofs.StepLemmas.{stepped-row}
use Rattle.field_pages.proofs.page_rows.stepped_row.Goals as goal

pub returns-clause-samples : goal.returns-clause-samples
returns-clause-samples c t t_in =
    get_or-take _ _ t MAX_SAMPLE (omega (arith, t_in))
    ∙ get_or-drop (c.args.step * c.args.start) c.args.samples.now t MAX_SAMPLE
    ∙ sym (stepped-row c.args.samples.now c.args.step c.args.start t c.requires.start
    c.requires.within t_in)
