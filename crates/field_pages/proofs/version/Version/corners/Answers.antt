-- The samples kept of a row of corners are the version's there.
use Rattle.std.proofs.Common.{arith, ◌≡◌, ◌<◌, ◌*◌, ◌/◌, [], ap, ◌∙◌, sym, subst, refl, get_or}
use Rattle.std.proofs.lemmas.List.{get_or_default}
use Rattle.lattice.specs.declared.point.Point.{Point}
use Rattle.terrain.specs.declared.brush.TheConstants.{MAX_SAMPLE}
use Rattle.terrain.specs.Samples.{IsSample}
use Rattle.field_pages.specs.declared.page.TheConstants.{SIDE}
use Rattle.field_pages.specs.Places.{IsInPages, page_corner, pages_across}
use Rattle.field_pages.specs.Pages.{IsVersion, Pages}
use Rattle.field_pages.proofs.SampleAtLemmas.{sample_at-layer}
use Rattle.field_pages.proofs.version.Version.corners.Goals as goal

pub returns-clause-samples : goal.returns-clause-samples
returns-clause-samples c q layer row column =
    let old = c.args.self.now in
    let p = c.args.p in
    let across_is : c.pages_across.result ≡ pages_across old.depth =
    c.pages_across.ensures.value ∙ ap (λ (v : Pages). pages_across v.depth) c.self.view_is in
    let layer_is : get_or old.layers (p.z / SIDE) [] ≡ c.part-layer.result.now =
    ap (λ (v : Pages). get_or v.layers (p.z / SIDE) []) (sym c.self.view_is)
    ∙ c.part-layer.ensures [] in
    let within : q.x / SIDE < c.pages_across.result = omega (arith, column, across_is) in
    let height : q.z / SIDE * SIDE / SIDE ≡ p.z / SIDE = omega (arith, layer) in
    c.corners.ensures.samples q row within
    ∙ sample_at-layer old c.pages_across.result (p.z / SIDE) c.part-layer.result.now (page_corner q)
    across_is layer_is height

pub returns-clause-range : goal.returns-clause-range
returns-clause-range c t d t_in =
    let old = c.args.self.now in
    let p = c.args.p in
    let sound : IsVersion old = subst IsVersion c.self.view_is c.self.invariant in
    let q : Point = record { z = p.z; y = p.y; x = SIDE * t } in
    let q_in : IsInPages (pages_across old.depth) (page_corner q) = record {
      z_end = omega (arith, c.requires.z);
      y_end = omega (arith, c.requires.y);
      x_end = omega (arith, t_in);
    } in
    let place : t ≡ q.x / SIDE = omega arith in
    let within : q.x / SIDE < pages_across old.depth = omega (arith, t_in) in
    let same : get_or c.corners.result.now t MAX_SAMPLE
    ≡ get_or c.corners.result.now (q.x / SIDE) MAX_SAMPLE =
    ap (λ k. get_or c.corners.result.now k MAX_SAMPLE) place in
    let at : get_or c.corners.result.now t d ≡ get_or c.corners.result.now t MAX_SAMPLE =
    get_or_default c.corners.result.now t d MAX_SAMPLE
    (omega (
      arith,
      t_in,
      c.corners.ensures.len,
      c.pages_across.ensures.value,
      ap (λ (v : Pages). pages_across v.depth) c.self.view_is,
    )) in
    subst IsSample (sym (at ∙ same ∙ returns-clause-samples c q refl refl within))
    (sound.range (page_corner q) q_in)
