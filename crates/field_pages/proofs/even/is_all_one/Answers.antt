-- One more part has the one sample alone.
use Rattle.std.proofs.Common.{◌≡◌, ◌+◌, ◌-◌, ◌*◌, w8, of_z, to_z, subst, inl, inr, get_or, arith}
use Rattle.std.proofs.lemmas.Bool.{cases_lt}
use Rattle.terrain.specs.declared.brush.TheConstants.{MAX_SAMPLE}
use Rattle.field_pages.specs.declared.page.TheConstants.{PART}
use Rattle.field_pages.proofs.even.is_all_one.Goals as goal

pub loop-layer-preserved : goal.loop-layer-preserved
loop-layer-preserved c k k_in =
    let samples = c.args.samples.now in
    let start = c.loop-layer.layer * PART in
    elim (cases_lt k start) [
      | inl before ↦ c.loop-layer.invariant k before
      | inr past ↦
          let here : start + (k - start) ≡ k = omega arith in
          subst (λ n. get_or samples n MAX_SAMPLE ≡ to_z w8 (of_z w8 c.args.sample)) here
          (c.is_even_part.ensures.0 c.if-not-is_even_part.false (k - start) (omega arith))
    ]
