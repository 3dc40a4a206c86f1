-- A page with one sample at its points of the world and the greatest one past them is that of this one sample.
use Rattle.std.proofs.Common.{◌≡◌, to_z, of_z, w8, SFits, get_or, inl, inr, rules, sym, ◌∙◌, subst, arith}
use Rattle.std.proofs.lemmas.Int.{to_z-of_z}
use Rattle.std.proofs.lemmas.List.{get_or_default}
use Rattle.terrain.specs.declared.brush.TheConstants.{MAX_SAMPLE}
use Rattle.field_pages.proofs.EvenLemmas.{even_at-inside, even_at-past, even_from, inside_or_past}
use Rattle.field_pages.proofs.page.Page.of.Goals as goal

pub returns-then-is_even_within : goal.returns-then-is_even_within
returns-then-is_even_within c =
    let items = c.args.samples.items in
    let e = c.args.extent in
    let s = c.index-sample.result.now in
    let fits : SFits w8 s = search rules in
    let first : to_z w8 (of_z w8 s) ≡ get_or items 0 MAX_SAMPLE =
    to_z-of_z w8 s fits ∙ c.index-sample.ensures
    ∙ get_or_default items 0 s MAX_SAMPLE (omega (arith, c.requires.long)) in
    c.even.ensures ∙ sym (even_from _ items c.requires.long (λ k k_in.
    elim (inside_or_past e k) [
      | inl inside ↦
          let same : get_or items k MAX_SAMPLE ≡ get_or items 0 MAX_SAMPLE =
          subst (λ l. get_or l k MAX_SAMPLE ≡ get_or l 0 MAX_SAMPLE) c.deref.ensures.value
          (c.is_even_within.ensures.0 c.if-is_even_within.true k k_in inside) in
          same ∙ sym first ∙ sym (even_at-inside e _ k inside)
      | inr past ↦ c.requires.padding k k_in past ∙ sym (even_at-past e _ k past)
    ]))
