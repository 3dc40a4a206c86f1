-- One more row has the first sample alone at its points of the world.
use Rattle.std.proofs.Common.{◌≡◌, ℕ, ◌+◌, ◌*◌, ◌-◌, ◌/◌, ◌%◌, ◌<◌, to_z, of_z, w8, pos, get_or, inl, inr, rules, sym, ◌∙◌, subst, arith}
use Rattle.std.proofs.lemmas.Bool.{cases_lt, false≢true}
use Rattle.std.proofs.lemmas.Int.{to_z-of_z}
use Rattle.std.proofs.lemmas.List.{get_or_default}
use Rattle.terrain.specs.declared.brush.TheConstants.{MAX_SAMPLE}
use Rattle.field_pages.specs.declared.page.TheConstants.{SIDE}
use Rattle.field_pages.specs.Even.{row_count}
use Rattle.field_pages.proofs.EvenLemmas.{inside-row}
use Rattle.field_pages.proofs.even.is_even_within.Goals as goal

pub returns-then-is_whole : goal.returns-then-is_whole
returns-then-is_whole c =
    let samples = c.args.samples.now in
    let first : to_z w8 (of_z w8 (get_or samples 0 (pos 0))) ≡ get_or samples 0 MAX_SAMPLE =
    to_z-of_z w8 (get_or samples 0 (pos 0)) (search rules)
    ∙ get_or_default samples 0 (pos 0) MAX_SAMPLE (omega (arith, c.requires.page)) in (
      (λ told k k_in inside. c.is_all_one.ensures.0 told k k_in ∙ first),
      (λ all. c.is_all_one.ensures.1 (λ k k_in.
          all k k_in (c.is_whole.ensures.0 c.if-is_whole.true k k_in) ∙ sym first)),
    )

pub returns-then-not-is_even_part : goal.returns-then-not-is_even_part
returns-then-not-is_even_part c =
    let samples = c.args.samples.now in
    let row = c.loop-row.row in
    let first : to_z w8 (of_z w8 (get_or samples 0 (pos 0))) ≡ get_or samples 0 MAX_SAMPLE =
    to_z-of_z w8 (get_or samples 0 (pos 0)) (search rules)
    ∙ get_or_default samples 0 (pos 0) MAX_SAMPLE (omega (arith, c.requires.page)) in (
      (λ h. absurd (false≢true h)),
      (λ all. sym c.if-not-is_even_part.true ∙ c.is_even_part.ensures.1 (λ t t_in.
          let t_few : t < SIDE = omega (arith, t_in, c.row_count.ensures.few) in
          all (SIDE * row + t) (omega (arith, t_few, c.loop-row-test.true))
          (inside-row c.args.extent row t t_few (omega (arith, t_in, c.row_count.ensures.value)))
          ∙ sym first)),
    )

pub loop-row-preserved : goal.loop-row-preserved
loop-row-preserved c k k_in inside =
    let samples = c.args.samples.now in
    let row = c.loop-row.row in
    let start : ℕ = SIDE * row in
    let first : to_z w8 (of_z w8 (get_or samples 0 (pos 0))) ≡ get_or samples 0 MAX_SAMPLE =
    to_z-of_z w8 (get_or samples 0 (pos 0)) (search rules)
    ∙ get_or_default samples 0 (pos 0) MAX_SAMPLE (omega (arith, c.requires.page)) in
    elim (cases_lt k start) [
      | inl before ↦ c.loop-row.invariant k before inside
      | inr past ↦
          let here : start + (k - start) ≡ k = omega (arith, past) in
          let row_is : k / SIDE ≡ row = omega (arith, past, k_in) in
          let within : k % SIDE < row_count c.args.extent row =
          subst (λ r. k % SIDE < row_count c.args.extent r) row_is inside in
          let t_in : k - start < c.row_count.result =
          omega (arith, within, c.row_count.ensures.value, past, k_in) in
          subst (λ n. get_or samples n MAX_SAMPLE ≡ get_or samples 0 MAX_SAMPLE) here
          (c.is_even_part.ensures.0 c.if-not-is_even_part.false (k - start) t_in ∙ first)
    ]
