-- The page's samples are those of its points.
use Rattle.std.proofs.Common.{◌≡◌, ◌/◌, [], ap, sym, ◌∙◌, get_or}
use Rattle.terrain.specs.Samples.{is_solid}
use Rattle.field_pages.specs.declared.page.TheConstants.{SIDE}
use Rattle.field_pages.specs.Places.{pages_across}
use Rattle.field_pages.specs.Pages.{Pages}
use Rattle.field_pages.proofs.SampleAtLemmas.{sample_at-page}
use Rattle.field_pages.proofs.version.Version.has_sign.Goals as goal

pub returns : goal.returns
returns c =
    let old = c.args.self.now in
    let p = c.args.p in
    let across = c.pages_across.result in
    let across_is : across ≡ pages_across old.depth =
    c.pages_across.ensures.value ∙ ap (λ (v : Pages). pages_across v.depth) c.self.view_is in
    let layer_is : get_or old.layers (p.z / SIDE) [] ≡ c.part-layer.result.now =
    ap (λ (v : Pages). get_or v.layers (p.z / SIDE) []) (sym c.self.view_is)
    ∙ c.part-layer.ensures [] in
    let page = sample_at-page (λ s. is_solid s ≡ c.args.solid) old across c.part-layer.result.now p
    across_is layer_is in (
      (λ told. page.0 (c.has_sign.ensures.0 told)),
      (λ all. c.has_sign.ensures.1 (page.1 all)),
    )
