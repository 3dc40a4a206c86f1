-- A page is even where it has the greatest sample, or no place past the world's end.
use Rattle.std.proofs.Common.{◌≡◌, SFits, of_z, to_z, w8, ap, inl, inr, rules, sym, ◌∙◌}
use Rattle.std.proofs.lemmas.Bool.{eq-eqb, eqb-true}
use Rattle.std.proofs.lemmas.Int.{to_z-of_z}
use Rattle.terrain.specs.declared.brush.TheConstants.{MAX_SAMPLE}
use Rattle.field_pages.proofs.EvenLemmas.{even-greatest, even-past, even-whole, inside_or_past}
use Rattle.field_pages.proofs.even.EvenPage.is_even.Goals as goal

pub returns-then-self-eq-MAX_SAMPLE : goal.returns-then-self-eq-MAX_SAMPLE
returns-then-self-eq-MAX_SAMPLE c =
    let page = c.args.self.now in
    let fits : SFits w8 page.sample = search rules in (
      (λ told. even-greatest page
          (sym (to_z-of_z w8 page.sample fits) ∙ ap (to_z w8) (eqb-true _ _ told))),
      (λ even. eq-eqb _ _ c.if-self-eq-MAX_SAMPLE.true),
    )

pub returns-else-self-eq-MAX_SAMPLE : goal.returns-else-self-eq-MAX_SAMPLE
returns-else-self-eq-MAX_SAMPLE c =
    let page = c.args.self.now in (
      (λ told. even-whole page (c.is_whole.ensures.0 told)),
      (λ even. c.is_whole.ensures.1 (λ k k_in.
          elim (inside_or_past page.extent k) [
            | inl inside ↦ inside
            | inr past ↦
                let is : page.sample ≡ MAX_SAMPLE = even-past page k c.requires even k_in past in
                absurd (c.if-self-eq-MAX_SAMPLE.false (ap (of_z w8) is))
          ])),
    )
