-- A row out of the table has the samples of the page.
use Rattle.std.proofs.Common.{◌≡◌, ◌+◌, ◌%◌, ap, sym, ◌∙◌, arith}
use Rattle.terrain.specs.declared.brush.TheConstants.{MAX_SAMPLE}
use Rattle.field_pages.specs.declared.page.TheConstants.{SIDE}
use Rattle.field_pages.specs.Even.{even_at, even_list}
use Rattle.field_pages.specs.PageSamples.{page_list}
use Rattle.field_pages.specs.Places.{index_in_page, page_at}
use Rattle.field_pages.proofs.EvenLemmas.{get_or-even}
use Rattle.field_pages.proofs.page.Page.row.Goals as goal

pub returns-in-Even-clause-samples : goal.returns-in-Even-clause-samples
returns-in-Even-clause-samples c p y z =
    let page = c.in-Even.page in
    let start = c.index_in_page-start.result in
    let list : even_list page ≡ c.args.self.now =
    ap page_list (sym c.in-Even.is) ∙ c.self.view_is in
    let at : start + p.x % SIDE ≡ index_in_page p =
    omega (arith, c.index_in_page-start.ensures.value, y, z) in
    c.row.ensures.samples (p.x % SIDE) (omega arith)
    ∙ ap (even_at page.extent page.sample) at
    ∙ sym (get_or-even page (index_in_page p) MAX_SAMPLE (omega arith))
    ∙ ap (λ l. page_at l p) list
