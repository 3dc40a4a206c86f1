-- The items of a page are samples of the version.
use Rattle.std.proofs.Common.{arith, ◌≡◌, ◌<◌, ◌+◌, ◌*◌, ◌/◌, ◌%◌, [], ap, ◌∙◌, sym, subst, get_or}
use Rattle.std.proofs.lemmas.List.{get_or_default}
use Rattle.lattice.specs.declared.point.Point.{Point}
use Rattle.terrain.specs.declared.brush.TheConstants.{MAX_SAMPLE}
use Rattle.terrain.specs.Samples.{IsSample}
use Rattle.field_pages.specs.declared.page.TheConstants.{SIDE}
use Rattle.field_pages.specs.Places.{IsInPages, IsInSamePage, pages_across, index_in_page}
use Rattle.field_pages.specs.PageRows.{lent_samples}
use Rattle.field_pages.specs.Pages.{IsVersion, Pages}
use Rattle.field_pages.proofs.SampleAtLemmas.{sample_at-layer}
use Rattle.field_pages.proofs.version.Version.page.Goals as goal

pub returns-clause-samples : goal.returns-clause-samples
returns-clause-samples c q same =
    let old = c.args.self.now in
    let p = c.args.p in
    let across_is : c.pages_across.result ≡ pages_across old.depth =
    c.pages_across.ensures.value ∙ ap (λ (v : Pages). pages_across v.depth) c.self.view_is in
    let layer_is : get_or old.layers (p.z / SIDE) [] ≡ c.part-layer.result.now =
    ap (λ (v : Pages). get_or v.layers (p.z / SIDE) []) (sym c.self.view_is)
    ∙ c.part-layer.ensures [] in
    c.page.ensures.samples q same.y same.x
    ∙ sample_at-layer old c.pages_across.result (p.z / SIDE) c.part-layer.result.now q across_is
    layer_is same.z

pub returns-clause-range : goal.returns-clause-range
returns-clause-range c k d k_in =
    let old = c.args.self.now in
    let p = c.args.p in
    let sound : IsVersion old = subst IsVersion c.self.view_is c.self.invariant in
    let below : k < 4096 = omega (arith, c.page.ensures.len) in
    let q : Point = record {
      z = p.z / SIDE * SIDE + k / 256;
      y = p.y / SIDE * SIDE + k / SIDE % SIDE;
      x = p.x / SIDE * SIDE + k % SIDE;
    } in
    let q_in : IsInPages (pages_across old.depth) q = record {
      z_end = omega (arith, c.requires.z);
      y_end = omega (arith, c.requires.y);
      x_end = omega (arith, c.requires.x);
    } in
    let place_is : index_in_page q ≡ k = omega arith in
    let same : IsInSamePage p q =
    record { z = omega arith; y = omega arith; x = omega arith } in
    subst IsSample
    (sym (get_or_default (lent_samples c.page.result) k d MAX_SAMPLE k_in
    ∙ ap (λ n. get_or (lent_samples c.page.result) n MAX_SAMPLE) (sym place_is)
    ∙ returns-clause-samples c q same)) (sound.range q q_in)
