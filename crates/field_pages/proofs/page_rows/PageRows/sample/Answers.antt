-- A page that keeps one sample alone has it at its points of the world, and any other has it in a row.
use Rattle.std.proofs.Common.{w8, ◌≡◌, ◌+◌, ◌-◌, ◌%◌, ℕ, SFits, arith, get_or, ap, pos, rules, sym, ◌∙◌, subst}
use Rattle.std.proofs.lemmas.Int.{to_z-of_z}
use Rattle.std.proofs.lemmas.List.{get_or_default}
use Rattle.terrain.specs.declared.brush.TheConstants.{MAX_SAMPLE}
use Rattle.field_pages.specs.declared.page.TheConstants.{SIDE}
use Rattle.field_pages.specs.Even.{IsExtent}
use Rattle.field_pages.specs.Lent.{IsRowStep, extent_lent, list_lent, samples_lent, step_lent, stepped}
use Rattle.field_pages.proofs.EvenLemmas.{get_or-even}
use Rattle.field_pages.proofs.page_rows.PageRows.sample.Goals as goal

pub at-requires : goal.at-requires
at-requires c =
    subst (λ l. IsExtent (extent_lent l)) c.in-Even.is c.args.self.now.extent

pub returns-in-Even : goal.returns-in-Even
returns-in-Even c =
    to_z-of_z w8 c.at.result (record { sfits = c.at.type_inv }) ∙ c.at.ensures
    ∙ sym (get_or-even c.in-Even.page c.args.index MAX_SAMPLE c.requires)
    ∙ ap (λ l. get_or (samples_lent l) c.args.index MAX_SAMPLE) (sym c.in-Even.is)

pub stepped_row-requires-clause-steps : goal.stepped_row-requires-clause-steps
stepped_row-requires-clause-steps c =
    subst (λ l. IsRowStep (list_lent l) (step_lent l)) c.in-Stepped.is c.args.self.now.steps

pub returns-in-Stepped : goal.returns-in-Stepped
returns-in-Stepped c =
    let index = c.args.index in
    let place : ℕ = index % SIDE in
    let row = c.stepped_row.result.now in
    let samples = c.in-Stepped.samples.now in
    let fits : SFits w8 (get_or row place (pos 0)) = search rules in
    let whole : index - place + place ≡ index = omega arith in
    to_z-of_z w8 (get_or row place (pos 0)) fits
    ∙ get_or_default row place (pos 0) MAX_SAMPLE (omega (arith, c.stepped_row.ensures.len))
    ∙ c.stepped_row.ensures.samples place (omega arith)
    ∙ ap (λ k. get_or (stepped samples c.in-Stepped.step) k MAX_SAMPLE) whole
    ∙ ap (λ l. get_or (samples_lent l) index MAX_SAMPLE) (sym c.in-Stepped.is)
