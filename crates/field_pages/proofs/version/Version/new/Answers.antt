-- Each layer has the greatest sample everywhere.
use Rattle.std.proofs.Common.{arith, ◌≡◌, ◌*◌, ◌/◌, ◌<◌, ℕ, ℤ, List, [], ap, ◌∙◌, subst, get_or, length, replicate}
use Rattle.std.proofs.lemmas.List.{get_or-replicate, length-replicate}
use Rattle.lattice.specs.declared.point.Point.{Point}
use Rattle.terrain.specs.declared.brush.TheConstants.{MAX_SAMPLE}
use Rattle.field_pages.specs.declared.page.TheConstants.{SIDE}
use Rattle.field_pages.specs.Places.{IsInLayer, IsInPages, layer_at, pages_across}
use Rattle.field_pages.specs.Pages.{sample_at}
use Rattle.field_pages.proofs.IsVersionLemmas.{IsVersion-empty, in_pages}
use Rattle.field_pages.proofs.version.Version.new.Goals as goal

-- each layer is the one
layer_is : (across k : ℕ) (layer : List (List ℤ)) (layers : List (List (List ℤ)))
    → layers ≡ replicate across layer → k < across → get_or layers k [] ≡ layer
layer_is across k layer layers are k_in =
    ap (λ l. get_or l k []) are ∙ get_or-replicate across k layer [] k_in

-- so layers of the greatest sample have no other one
greatest : (depth across : ℕ) (layer : List (List ℤ)) (layers : List (List (List ℤ)))
    → across ≡ pages_across depth → layers ≡ replicate across layer
    → ((p : Point) → IsInLayer across p.z p → layer_at across layer p ≡ MAX_SAMPLE)
    → (p : Point) → IsInPages (pages_across depth) p
    → sample_at (record { depth = depth; layers = layers }) p ≡ MAX_SAMPLE
greatest depth across layer layers across_is are samples p p_in =
    let place : p.z / SIDE < across = omega (arith, p_in.z_end, across_is) in
    let here : IsInLayer across p.z p = record {
      z = omega arith;
      z_end = omega arith;
      y_end = omega (arith, p_in.y_end, across_is);
      x_end = omega (arith, p_in.x_end, across_is);
    } in
    ap (λ l. layer_at (pages_across depth) l p)
    (layer_is across (p.z / SIDE) layer layers are place)
    ∙ subst (λ a. layer_at a layer p ≡ MAX_SAMPLE) across_is (samples p here)

pub invariant_of-result : goal.invariant_of-result
invariant_of-result c =
    let across = c.pages_across-across.result in
    let layer = c.in_ok-layer.layer in
    let layers = c.in_ok-layers.layers in
    let across_is = c.pages_across-across.ensures.value in
    IsVersion-empty c.args.depth layers c.requires
    (ap length c.in_ok-layers.ensures ∙ length-replicate across layer ∙ across_is)
    (λ k k_in.
    ap length (layer_is across k layer layers c.in_ok-layers.ensures
    (omega (arith, k_in, across_is)))
    ∙ c.in_ok-layer.ensures.len ∙ ap (λ a. a * a) across_is)
    (greatest c.args.depth across layer layers across_is c.in_ok-layers.ensures
    c.in_ok-layer.ensures.samples)

pub returns-clause-samples : goal.returns-clause-samples
returns-clause-samples c p p_in =
    greatest c.args.depth c.pages_across-across.result c.in_ok-layer.layer c.in_ok-layers.layers
    c.pages_across-across.ensures.value c.in_ok-layers.ensures c.in_ok-layer.ensures.samples p
    (in_pages c.args.depth p p_in)
