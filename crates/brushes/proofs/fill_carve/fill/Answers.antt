-- One more sample is the lesser of itself and its value.
use Rattle.std.proofs.Common.{rules, ◌≡◌, ◌<◌, ℕ, ℤ, pos, length, get_or, ◌∙◌, arith, FitsSigned, w8, to_z, of_z}
use Rattle.std.specs.Int.{int_min}
use Rattle.std.proofs.lemmas.Int.{to_z-of_z}
use Rattle.std.proofs.lemmas.List.{get_or_default}
use Rattle.terrain.specs.declared.brush.TheConstants.{MAX_SAMPLE}
use Rattle.brushes.proofs.RowLemmas.{made_more, left_more}
use Rattle.brushes.proofs.fill_carve.fill.Goals as goal

pub loop-t-preserved : goal.loop-t-preserved
loop-t-preserved c =
    let row = c.loop-t.row in
    let t = c.loop-t.t in
    let initial = c.args.row.now in
    let values = c.args.values.now in
    let within : t < length row = omega arith in
    let v_within : t < length values = omega arith in
    let old_fits : FitsSigned w8 (get_or row t (pos 0)) = search rules in
    let fits : FitsSigned w8 c.min.result = search rules in
    let old_is : to_z w8 (of_z w8 (get_or row t (pos 0))) ≡ get_or initial t MAX_SAMPLE =
    to_z-of_z w8 (get_or row t (pos 0)) old_fits ∙ get_or_default row t (pos 0) MAX_SAMPLE within
    ∙ c.loop-t.invariant.left t (omega arith) in
    let value_fits : FitsSigned w8 (get_or values t (pos 0)) = search rules in
    let value_is : to_z w8 (of_z w8 (get_or values t (pos 0))) ≡ get_or values t MAX_SAMPLE =
    to_z-of_z w8 (get_or values t (pos 0)) value_fits
    ∙ get_or_default values t (pos 0) MAX_SAMPLE v_within in
    let made : to_z w8 (of_z w8 c.min.result)
    ≡ int_min (get_or initial t MAX_SAMPLE) (get_or values t MAX_SAMPLE) =
    to_z-of_z w8 c.min.result fits ∙ c.min.ensures.value
    ∙ (λ i. int_min (old_is i) (value_is i)) in
    record {
      made = made_more (λ (n : ℕ) (v : ℤ).
          v ≡ int_min (get_or initial n MAX_SAMPLE) (get_or values n MAX_SAMPLE))
          row t (to_z w8 (of_z w8 c.min.result)) within made c.loop-t.invariant.made;
      left = left_more row initial t (to_z w8 (of_z w8 c.min.result)) c.loop-t.invariant.left;
    }
