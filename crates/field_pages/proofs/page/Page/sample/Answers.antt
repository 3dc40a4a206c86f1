-- A page that keeps one sample alone has it at its points of the world.
use Rattle.std.proofs.Common.{◌≡◌, w8, ap, sym, ◌∙◌, arith}
use Rattle.std.proofs.lemmas.Int.{to_z-of_z}
use Rattle.terrain.specs.declared.brush.TheConstants.{MAX_SAMPLE}
use Rattle.field_pages.specs.Even.{even_at, even_list}
use Rattle.field_pages.specs.PageSamples.{page_list}
use Rattle.field_pages.specs.Places.{index_in_page, page_at}
use Rattle.field_pages.proofs.EvenLemmas.{get_or-even}
use Rattle.field_pages.proofs.page.Page.sample.Goals as goal

pub returns-in-Even : goal.returns-in-Even
returns-in-Even c =
    let page = c.in-Even.page in
    let p = c.args.p in
    let list : even_list page ≡ c.args.self.now =
    ap page_list (sym c.in-Even.is) ∙ c.self.view_is in
    to_z-of_z w8 c.at.result (record { sfits = c.at.type_inv }) ∙ c.at.ensures
    ∙ ap (even_at page.extent page.sample) c.index_in_page.ensures.value
    ∙ sym (get_or-even page (index_in_page p) MAX_SAMPLE (omega arith))
    ∙ ap (λ l. page_at l p) list
