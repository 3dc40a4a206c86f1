-- The points of the box and the first one are points of the world by the page's extent.
use Rattle.std.proofs.Common.{◌≡◌, ap, sym, ◌∙◌, subst}
use Rattle.field_pages.specs.Even.{IsExtent, even_list}
use Rattle.field_pages.specs.PageSamples.{IsPage, page_list}
use Rattle.field_pages.proofs.EvenLemmas.{even-first, even-sample}
use Rattle.field_pages.proofs.page.Page.has_one_sample_in.Goals as goal

pub returns-in-Even : goal.returns-in-Even
returns-in-Even c = λ told corner p at hi_in p_in within.
    let page = c.in-Even.page in
    let list : even_list page ≡ c.args.self.now =
    ap page_list (sym c.in-Even.is) ∙ c.self.view_is in
    let extent : IsExtent page.extent = subst IsPage c.in-Even.is c.self.invariant in
    even-sample page c.args.self.now p list (c.has.ensures told corner p at hi_in p_in within)
    ∙ sym (even-first page c.args.self.now list extent)
