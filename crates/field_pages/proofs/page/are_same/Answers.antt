-- Before the first part all is the same, one more is, and behind the last one all is again.
use Rattle.std.proofs.Common.{◌≡◌, ◌+◌, ◌-◌, ◌*◌, sym, ◌∙◌, subst, refl, inl, inr, get_or, arith}
use Rattle.std.proofs.lemmas.Bool.{cases_lt}
use Rattle.std.proofs.lemmas.List.{ext_get_or}
use Rattle.terrain.specs.declared.brush.TheConstants.{MAX_SAMPLE}
use Rattle.field_pages.specs.declared.page.TheConstants.{PART}
use Rattle.field_pages.proofs.page.are_same.Goals as goal

pub loop-layer-init : goal.loop-layer-init
loop-layer-init c k k_in = c.requires.others k (omega arith) (λ after _. omega arith)

pub loop-layer-preserved : goal.loop-layer-preserved
loop-layer-preserved c k k_in =
    let start = c.loop-layer.layer * PART in
    elim (cases_lt k start) [
      | inl before ↦ c.loop-layer.invariant k before
      | inr past ↦
          let here : start + (k - start) ≡ k = omega arith in
          subst (λ n. get_or c.args.a.now n MAX_SAMPLE ≡ get_or c.args.b.now n MAX_SAMPLE) here
          (c.is_same_part.ensures.0 c.if-not-is_same_part.false (k - start) (omega arith))
    ]

pub returns : goal.returns
returns c = (
  (λ told. ext_get_or MAX_SAMPLE c.args.a.now c.args.b.now (c.requires.a ∙ sym c.requires.b)
      (λ k k_in. elim (cases_lt k (c.loop-layer.layer * PART)) [
        | inl before ↦ c.loop-layer.invariant k before
        | inr past ↦ c.requires.others k (omega arith) (λ _ before. omega arith)
      ])),
  (λ same. refl),
)
