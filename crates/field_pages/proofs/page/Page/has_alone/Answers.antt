-- A page that keeps one sample alone has it at its first place.
use Rattle.std.proofs.Common.{◌≡◌, ◌↔◌, ℤ, IsTrue, SFits, w8, of_z, to_z, ap, rules, sym, ◌∙◌, subst, arith}
use Rattle.std.proofs.lemmas.Bool.{eqb-true}
use Rattle.std.proofs.lemmas.Int.{to_z-of_z}
use Rattle.field_pages.specs.Even.{IsExtent, even_list}
use Rattle.field_pages.specs.PageSamples.{IsPage, page_list}
use Rattle.field_pages.specs.Places.{IsEven}
use Rattle.field_pages.proofs.EvenLemmas.{even-first}
use Rattle.field_pages.proofs.page.Page.has_alone.Goals as goal

pub returns-then-page-sample : goal.returns-then-page-sample
returns-then-page-sample c =
    let page = c.in-Even.page in
    let own = c.args.self.now in
    let sample : ℤ = c.args.sample in
    let list : even_list page ≡ own = ap page_list (sym c.in-Even.is) ∙ c.self.view_is in
    let extent : IsExtent page.extent = subst IsPage c.in-Even.is c.self.invariant in
    let page_fits : SFits w8 page.sample = search rules in
    let fits : SFits w8 sample = search rules in
    let same : page.sample ≡ sample =
    sym (to_z-of_z w8 page.sample page_fits) ∙ ap (to_z w8) c.if-page-sample.true
    ∙ to_z-of_z w8 sample fits in
    let even : IsTrue c.is_even.result ↔ IsEven own =
    subst (λ l. IsTrue c.is_even.result ↔ IsEven l) list c.is_even.ensures in (
      (λ told k k_in. even.0 told k k_in ∙ even-first page own list extent ∙ same),
      (λ all. even.1 (λ k k_in. all k k_in ∙ sym (all 0 (omega arith)))),
    )

pub returns-else-page-sample : goal.returns-else-page-sample
returns-else-page-sample c =
    let page = c.in-Even.page in
    let own = c.args.self.now in
    let list : even_list page ≡ own = ap page_list (sym c.in-Even.is) ∙ c.self.view_is in
    let extent : IsExtent page.extent = subst IsPage c.in-Even.is c.self.invariant in (
      (λ told. absurd (c.if-page-sample.false (eqb-true _ _ told))),
      (λ all. absurd (c.if-page-sample.false
          (ap (of_z w8) (sym (even-first page own list extent) ∙ all 0 (omega arith))))),
    )
