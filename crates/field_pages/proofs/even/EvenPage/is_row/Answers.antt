-- The first samples of a row are those at points of the world, and the others past its end.
use Rattle.std.proofs.Common.{◌≡◌, ℕ, ◌+◌, ◌*◌, ◌-◌, ◌<◌, ◌≤◌, SFits, w8, get_or, inl, inr, rules, sym, ◌∙◌, subst, arith}
use Rattle.std.proofs.lemmas.Bool.{cases_lt}
use Rattle.std.proofs.lemmas.Int.{to_z-of_z}
use Rattle.terrain.specs.declared.brush.TheConstants.{MAX_SAMPLE}
use Rattle.field_pages.specs.declared.page.TheConstants.{SIDE}
use Rattle.field_pages.specs.Even.{row_count}
use Rattle.field_pages.proofs.EvenLemmas.{even_at-inside, even_at-past, inside-row, past-row}
use Rattle.field_pages.proofs.even.EvenPage.is_row.Goals as goal

pub returns-then-is_even_part : goal.returns-then-is_even_part
returns-then-is_even_part c =
    let e = c.args.self.now.extent in
    let s = c.args.self.now.sample in
    let row = c.args.row in
    let samples = c.args.samples.now in
    let count : ℕ = c.row_count-count.result in
    let fits : SFits w8 s = search rules in
    let few : count ≤ SIDE = c.row_count-count.ensures.few in
    let count_is : count ≡ row_count e row = c.row_count-count.ensures.value in (
      (λ told t t_in. elim (cases_lt t count) [
        | inl here ↦
            c.is_even_part.ensures.0 c.if-is_even_part.true t here ∙ to_z-of_z w8 s fits
            ∙ sym (even_at-inside e s (SIDE * row + t)
            (inside-row e row t t_in (omega (arith, here, count_is))))
        | inr past ↦
            let at : SIDE * row + count + (t - count) ≡ SIDE * row + t = omega (arith, past) in
            subst (λ n. get_or samples n MAX_SAMPLE ≡ MAX_SAMPLE) at
            (c.is_even_part-then-is_even_part.ensures.0 told (t - count)
            (omega (arith, past, t_in, few)))
            ∙ sym (even_at-past e s (SIDE * row + t)
            (past-row e row t t_in (omega (arith, past, count_is))))
      ]),
      (λ all. c.is_even_part-then-is_even_part.ensures.1 (λ k k_in.
          let t : ℕ = count + k in
          let t_in : t < SIDE = omega (arith, k_in, few) in
          let at : SIDE * row + t ≡ SIDE * row + count + k = omega arith in
          subst (λ n. get_or samples n MAX_SAMPLE ≡ MAX_SAMPLE) at
          (all t t_in ∙ even_at-past e s (SIDE * row + t)
          (past-row e row t t_in (omega (arith, count_is)))))),
    )
