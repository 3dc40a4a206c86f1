-- The greatest sample is at points of the world and past its end.
use Rattle.std.proofs.Common.{◌≡◌, ap, refl, ◌∙◌, arith}
use Rattle.terrain.specs.declared.brush.TheConstants.{MAX_SAMPLE}
use Rattle.field_pages.specs.Places.{index_in_page, page_at}
use Rattle.field_pages.proofs.EvenLemmas.{even_at-any, get_or-even}
use Rattle.field_pages.proofs.page.Page.empty.Goals as goal

pub returns : goal.returns
returns c p =
    ap (λ l. page_at l p) c.even.ensures
    ∙ get_or-even _ (index_in_page p) MAX_SAMPLE (omega arith)
    ∙ even_at-any (λ s. s ≡ MAX_SAMPLE) _ _ (index_in_page p) (λ _. refl) (λ _. refl)
