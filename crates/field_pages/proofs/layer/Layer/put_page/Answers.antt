-- The sample at the page's corner is put beside it.
use Rattle.std.proofs.Common.{◌≡◌, ap, get_or, set, sym, to_z, of_z, w8, ◌∙◌}
use Rattle.std.proofs.lemmas.Int.{to_z-of_z}
use Rattle.std.proofs.lemmas.List.{map-set}
use Rattle.terrain.specs.declared.brush.TheConstants.{MAX_SAMPLE}
use Rattle.field_pages.specs.Places.{corner_samples}
use Rattle.field_pages.proofs.layer.Layer.put_page.Goals as goal

pub invariant_of-self-2 : goal.invariant_of-self-2
invariant_of-self-2 c =
    let old = c.self.inside.pages in
    let n = c.args.number in
    let page = c.args.page in
    let corner_is : to_z w8 (of_z w8 c.first-corner.result) ≡ get_or page 0 MAX_SAMPLE =
    to_z-of_z w8 c.first-corner.result (record { sfits = c.first-corner.type_inv })
    ∙ c.first-corner.ensures in
    (λ i. set (c.self.invariant i) n (corner_is i))
    ∙ sym (map-set (λ p. get_or p 0 MAX_SAMPLE) old n page)
    ∙ ap corner_samples (sym c.in_ok-put.ensures.put)
