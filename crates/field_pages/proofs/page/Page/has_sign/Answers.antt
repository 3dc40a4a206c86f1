-- A page that keeps each sample by itself is told by their signs.
use Rattle.std.proofs.Common.{◌≡◌, ◌↔◌, ◌<◌, ℕ, length, get_or, ap, sym, ◌∙◌, subst}
use Rattle.std.specs.Arc.{arc_value}
use Rattle.terrain.specs.Samples.{is_solid}
use Rattle.terrain.specs.declared.brush.TheConstants.{MAX_SAMPLE}
use Rattle.field_pages.specs.Even.{even_at, even_list}
use Rattle.field_pages.specs.PageSamples.{AreUneven, IsPage, page_list}
use Rattle.field_pages.specs.Signs.{one_sign, sample_signs}
use Rattle.field_pages.specs.declared.page.TheConstants.{COUNT}
use Rattle.field_pages.proofs.EvenLemmas.{get_or-even}
use Rattle.field_pages.proofs.SignLemmas.{signs-each}
use Rattle.field_pages.proofs.page.Page.has_sign.Goals as goal

pub returns-in-Even : goal.returns-in-Even
returns-in-Even c =
    let page = c.in-Even.page in
    let own = c.args.self.now in
    let list : even_list page ≡ own = ap page_list (sym c.in-Even.is) ∙ c.self.view_is in
    let at : (k : ℕ) → k < COUNT
    → get_or own k MAX_SAMPLE ≡ even_at page.extent page.sample k = λ k k_in.
    ap (λ l. get_or l k MAX_SAMPLE) (sym list) ∙ get_or-even page k MAX_SAMPLE k_in in (
      (λ told k k_in. ap is_solid (at k k_in) ∙ c.has_sign.ensures.0 told k k_in),
      (λ all. c.has_sign.ensures.1 (λ k k_in. ap is_solid (sym (at k k_in)) ∙ all k k_in)),
    )

pub returns-in-Full : goal.returns-in-Full
returns-in-Full c =
    let own = c.args.self.now in
    let items = (arc_value c.in-Full.samples).items in
    let signs = c.in-Full.signs in
    let solid = c.args.solid in
    let list : items ≡ own = ap page_list (sym c.in-Full.is) ∙ c.self.view_is in
    let kept : AreUneven items signs = subst IsPage c.in-Full.is c.self.invariant in
    let each : (sample_signs own ≡ one_sign solid)
    ↔ ((k : ℕ) → k < COUNT → is_solid (get_or own k MAX_SAMPLE) ≡ solid) =
    signs-each own solid (ap length (sym list) ∙ kept.long) in
    let is : signs ≡ sample_signs own = kept.signed ∙ ap sample_signs list in (
      (λ told. each.0 (sym is ∙ c.are_all.ensures.0 told)),
      (λ all. c.are_all.ensures.1 (is ∙ each.1 all)),
    )
