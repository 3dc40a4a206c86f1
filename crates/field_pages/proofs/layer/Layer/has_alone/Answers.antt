-- The page is the layer's.
use Rattle.std.proofs.Common.{◌≡◌, ◌<◌, ℕ, ℤ, [], get_or, ap, ◌∙◌, subst, IsTrue, ◌↔◌, List, SFits, w8, rules}
use Rattle.std.proofs.lemmas.Int.{to_z-of_z}
use Rattle.terrain.specs.declared.brush.TheConstants.{MAX_SAMPLE}
use Rattle.field_pages.specs.declared.page.TheConstants.{COUNT}
use Rattle.field_pages.specs.Places.{page_number}
use Rattle.field_pages.proofs.layer.Layer.has_alone.Goals as goal

pub returns : goal.returns
returns c =
    let layer = c.args.self.now in
    let sample : ℤ = c.args.sample in
    let fits : SFits w8 sample = search rules in
    let has : List ℤ → ℤ → Type 0 = λ page s.
    IsTrue c.has_alone.result ↔ ((k : ℕ) → k < COUNT → get_or page k MAX_SAMPLE ≡ s) in
    let n = c.page_number.result in
    let page_is : c.page.result.now ≡ get_or layer (page_number c.args.across c.args.p) [] =
    c.page.ensures ∙ ap (λ l. get_or l n []) c.self.view_is
    ∙ ap (λ m. get_or layer m []) c.page_number.ensures.value in
    subst (λ page. has page sample) page_is
    (subst (has c.page.result.now) (to_z-of_z w8 sample fits) c.has_alone.ensures)
