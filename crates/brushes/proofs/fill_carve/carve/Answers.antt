-- One more sample is the greater of itself and its value with the sign turned.
use Rattle.std.proofs.Common.{rules, ◌≡◌, ◌<◌, ℕ, ℤ, pos, neg_ℤ, length, get_or, ap, sym, subst, ◌-ℤ◌, ◌∙◌, arith, FitsSigned, w8, to_z, of_z}
use Rattle.std.specs.Int.{int_max}
use Rattle.std.proofs.lemmas.Int.{ints, to_z-of_z}
use Rattle.std.proofs.lemmas.List.{get_or_default}
use Rattle.terrain.specs.declared.brush.TheConstants.{MAX_SAMPLE}
use Rattle.terrain.specs.Samples.{IsSample}
use Rattle.brushes.proofs.RowLemmas.{made_more, left_more}
use Rattle.brushes.proofs.fill_carve.carve.Goals as goal

-- a value with its sign turned, as the code computes it
turned : (v : ℤ) → IsSample v → to_z w8 (of_z w8 (pos 0 -ℤ to_z w8 (of_z w8 v))) ≡ neg_ℤ v
turned v is_sample = omega (arith, ints)

pub loop-t-preserved : goal.loop-t-preserved
loop-t-preserved c =
    let row = c.loop-t.row in
    let t = c.loop-t.t in
    let initial = c.args.row.now in
    let values = c.args.values.now in
    let within : t < length row = omega arith in
    let v_within : t < length values = omega arith in
    let old_fits : FitsSigned w8 (get_or row t (pos 0)) = search rules in
    let fits : FitsSigned w8 c.max.result = search rules in
    let old_is : to_z w8 (of_z w8 (get_or row t (pos 0))) ≡ get_or initial t MAX_SAMPLE =
    to_z-of_z w8 (get_or row t (pos 0)) old_fits ∙ get_or_default row t (pos 0) MAX_SAMPLE within
    ∙ c.loop-t.invariant.left t (omega arith) in
    let value_is : get_or values t (pos 0) ≡ get_or values t MAX_SAMPLE =
    get_or_default values t (pos 0) MAX_SAMPLE v_within in
    let turned_is = turned (get_or values t (pos 0))
    (subst IsSample (sym value_is) (c.requires.range t v_within)) in
    let made : to_z w8 (of_z w8 c.max.result)
    ≡ int_max (get_or initial t MAX_SAMPLE) (neg_ℤ (get_or values t MAX_SAMPLE)) =
    to_z-of_z w8 c.max.result fits ∙ c.max.ensures.value
    ∙ (λ i. int_max (old_is i) ((turned_is ∙ ap neg_ℤ value_is) i)) in
    record {
      made = made_more (λ (n : ℕ) (v : ℤ).
          v ≡ int_max (get_or initial n MAX_SAMPLE) (neg_ℤ (get_or values n MAX_SAMPLE)))
          row t (to_z w8 (of_z w8 c.max.result)) within made c.loop-t.invariant.made;
      left = left_more row initial t (to_z w8 (of_z w8 c.max.result)) c.loop-t.invariant.left;
    }
