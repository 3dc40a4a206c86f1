-- The page's samples are those of its points.
use Rattle.std.proofs.Common.{◌≡◌, ◌/◌, ℤ, [], ap, sym, ◌∙◌, get_or, SFits, w8, of_z, to_z, rules}
use Rattle.std.proofs.lemmas.Int.{to_z-of_z}
use Rattle.field_pages.specs.declared.page.TheConstants.{SIDE}
use Rattle.field_pages.specs.Places.{pages_across}
use Rattle.field_pages.specs.Pages.{Pages}
use Rattle.field_pages.proofs.SampleAtLemmas.{sample_at-page}
use Rattle.field_pages.proofs.version.Version.has_alone.Goals as goal

pub returns : goal.returns
returns c =
    let old = c.args.self.now in
    let p = c.args.p in
    let across = c.pages_across.result in
    let across_is : across ≡ pages_across old.depth =
    c.pages_across.ensures.value ∙ ap (λ (v : Pages). pages_across v.depth) c.self.view_is in
    let layer_is : get_or old.layers (p.z / SIDE) [] ≡ c.part-layer.result.now =
    ap (λ (v : Pages). get_or v.layers (p.z / SIDE) []) (sym c.self.view_is)
    ∙ c.part-layer.ensures [] in
    let sample : ℤ = c.args.sample in
    let fits : SFits w8 sample = search rules in
    let is : to_z w8 (of_z w8 sample) ≡ sample = to_z-of_z w8 sample fits in
    let page = sample_at-page (λ s. s ≡ sample) old across c.part-layer.result.now p across_is
    layer_is in (
      (λ told. page.0 (λ k k_in. c.has_alone.ensures.0 told k k_in ∙ is)),
      (λ all. c.has_alone.ensures.1 (λ k k_in. page.1 all k k_in ∙ sym is)),
    )
