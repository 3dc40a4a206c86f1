-- Before the first row all is the page's, one more is, and behind the last one all is again.
use Rattle.std.proofs.Common.{◌≡◌, ℕ, ◌+◌, ◌*◌, ◌-◌, ◌<◌, SFits, w8, get_or, ap, inl, inr, refl, rules, sym, ◌∙◌, subst, arith}
use Rattle.std.proofs.lemmas.Bool.{cases_lt, false≢true}
use Rattle.std.proofs.lemmas.Int.{to_z-of_z}
use Rattle.terrain.specs.declared.brush.TheConstants.{MAX_SAMPLE}
use Rattle.field_pages.specs.declared.page.TheConstants.{COUNT, SIDE}
use Rattle.field_pages.specs.Even.{even_at}
use Rattle.field_pages.proofs.EvenLemmas.{even_at-inside, even_from, get_or-even}
use Rattle.field_pages.proofs.even.EvenPage.is_all.Goals as goal

pub returns-then-is_whole : goal.returns-then-is_whole
returns-then-is_whole c =
    let page = c.args.self.now in
    let s = page.sample in
    let fits : SFits w8 s = search rules in (
      (λ told. even_from page c.args.samples.now c.requires.long (λ k k_in.
          c.is_all_one.ensures.0 told k k_in ∙ to_z-of_z w8 s fits
          ∙ sym (even_at-inside page.extent s k
          (c.is_whole.ensures.0 c.if-is_whole.true k k_in)))),
      (λ same. c.is_all_one.ensures.1 (λ k k_in.
          ap (λ l. get_or l k MAX_SAMPLE) same ∙ get_or-even page k MAX_SAMPLE k_in
          ∙ even_at-inside page.extent s k (c.is_whole.ensures.0 c.if-is_whole.true k k_in)
          ∙ sym (to_z-of_z w8 s fits))),
    )

pub returns-then-not-is_row : goal.returns-then-not-is_row
returns-then-not-is_row c =
    let page = c.args.self.now in
    let row = c.loop-row.row in (
      (λ h. absurd (false≢true h)),
      (λ same. sym c.if-not-is_row.true ∙ c.is_row.ensures.1 (λ t t_in.
          ap (λ l. get_or l (SIDE * row + t) MAX_SAMPLE) same
          ∙ get_or-even page (SIDE * row + t) MAX_SAMPLE
          (omega (arith, t_in, c.loop-row-test.true)))),
    )

pub loop-row-init : goal.loop-row-init
loop-row-init c k k_in =
    let page = c.args.self.now in
    let within : k < COUNT = omega arith in
    c.requires.others k within (λ after _. omega arith) ∙ get_or-even page k MAX_SAMPLE within

pub loop-row-preserved : goal.loop-row-preserved
loop-row-preserved c k k_in =
    let page = c.args.self.now in
    let start : ℕ = SIDE * c.loop-row.row in
    elim (cases_lt k start) [
      | inl before ↦ c.loop-row.invariant k before
      | inr past ↦
          let here : start + (k - start) ≡ k = omega (arith, past) in
          subst (λ n. get_or c.args.samples.now n MAX_SAMPLE
          ≡ even_at page.extent page.sample n) here
          (c.is_row.ensures.0 c.if-not-is_row.false (k - start) (omega (arith, past, k_in)))
    ]

pub returns : goal.returns
returns c = (
  (λ told. even_from c.args.self.now c.args.samples.now c.requires.long (λ k k_in.
      elim (cases_lt k (SIDE * c.loop-row.row)) [
        | inl before ↦ c.loop-row.invariant k before
        | inr past ↦
            c.requires.others k k_in (λ _ before. omega (arith, past, before))
            ∙ get_or-even c.args.self.now k MAX_SAMPLE k_in
      ])),
  (λ same. refl),
)
