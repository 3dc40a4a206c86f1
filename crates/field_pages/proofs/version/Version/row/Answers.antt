-- The items of a page's row are samples of the version, and past its end the padding.
use Rattle.std.proofs.Common.{arith, ◌≡◌, ◌+◌, ◌*◌, ◌/◌, [], ap, ◌∙◌, sym, subst, get_or}
use Rattle.lattice.specs.declared.point.Point.{Point}
use Rattle.terrain.specs.Samples.{IsSample}
use Rattle.field_pages.specs.declared.page.TheConstants.{SIDE}
use Rattle.field_pages.specs.Places.{IsInPages, pages_across}
use Rattle.field_pages.specs.Pages.{IsVersion, Pages}
use Rattle.field_pages.proofs.SampleAtLemmas.{sample_at-row}
use Rattle.field_pages.proofs.version.Version.row.Goals as goal

pub returns-clause-samples : goal.returns-clause-samples
returns-clause-samples c t d t_in =
    let old = c.args.self.now in
    let across_is : c.pages_across.result ≡ pages_across old.depth =
    c.pages_across.ensures.value ∙ ap (λ (v : Pages). pages_across v.depth) c.self.view_is in
    let layer_is : get_or old.layers (c.args.z / SIDE) [] ≡ c.part-layer.result.now =
    ap (λ (v : Pages). get_or v.layers (c.args.z / SIDE) []) (sym c.self.view_is)
    ∙ c.part-layer.ensures [] in
    sample_at-row old c.pages_across.result c.part-layer.result.now c.row.result.now
    c.args.z c.args.y c.args.x_page t d across_is layer_is c.row.ensures.len c.row.ensures.samples
    t_in

pub returns-clause-padding : goal.returns-clause-padding
returns-clause-padding c t d t_in past =
    let old = c.args.self.now in
    let sound : IsVersion old = subst IsVersion c.self.view_is c.self.invariant in
    let p : Point = record { z = c.args.z; y = c.args.y; x = SIDE * c.args.x_page + t } in
    let p_in : IsInPages (pages_across old.depth) p = record {
      z_end = omega (arith, c.requires.z);
      y_end = omega (arith, c.requires.y);
      x_end = omega (arith, c.requires.x_page, t_in);
    } in
    returns-clause-samples c t d t_in ∙ sound.padding p p_in (λ h. omega (arith, h.x, past))

pub returns-clause-range : goal.returns-clause-range
returns-clause-range c t d t_in =
    let old = c.args.self.now in
    let sound : IsVersion old = subst IsVersion c.self.view_is c.self.invariant in
    let p : Point = record { z = c.args.z; y = c.args.y; x = SIDE * c.args.x_page + t } in
    let p_in : IsInPages (pages_across old.depth) p = record {
      z_end = omega (arith, c.requires.z);
      y_end = omega (arith, c.requires.y);
      x_end = omega (arith, c.requires.x_page, t_in);
    } in
    subst IsSample (sym (returns-clause-samples c t d t_in)) (sound.range p p_in)
