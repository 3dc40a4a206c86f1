-- One more value is the box's.
use Rattle.std.proofs.Common.{◌≡◌, ◌+◌, ◌/◌, ◌-ℤ◌, ◌*ℤ◌, ℕ, ℤ, pos, ap, ◌∙◌, arith, w8, w16, to_z, of_z}
use Rattle.std.specs.Int.{int_max}
use Rattle.std.proofs.lemmas.List.{length-set}
use Rattle.terrain.specs.declared.brush.TheConstants.{SUBCELLS}
use Rattle.terrain.specs.Samples.{clamped_sample}
use Rattle.brushes.proofs.RowLemmas.{made_more}
use Rattle.brushes.proofs.ShapeLemmas.{apart_is, sample_is}
use Rattle.brushes.proofs.shape.row_values.Goals as goal

pub loop-t-preserved : goal.loop-t-preserved
loop-t-preserved c =
    let r = c.clamped_value.result in
    let across : ℤ = to_z w16 (of_z w16 c.args.across) in
    let here : ℕ → ℤ = λ t. int_max (pos c.args.low -ℤ pos (c.args.x + t))
    (pos (c.args.x + t) -ℤ pos c.args.high) in
    let outside_is = apart_is c.greater.result c.greater.ensures.near ∙ c.greater.ensures.value
    ∙ (λ i. int_max
    ((apart_is c.beyond.result c.beyond.ensures.near ∙ c.beyond.ensures.value) i)
    across) in
    let made : to_z w8 (of_z w8 r)
    ≡ clamped_sample ((pos SUBCELLS *ℤ int_max (here c.loop-t.t) across)
    -ℤ pos (SUBCELLS / 2)) =
    sample_is r c.clamped_value.ensures.range ∙ c.clamped_value.ensures.value
    ∙ ap (λ o. clamped_sample ((pos SUBCELLS *ℤ o) -ℤ pos (SUBCELLS / 2))) outside_is in
    let long = c.loop-t.invariant.long in
    record {
      long = length-set c.loop-t.value-items c.loop-t.t (to_z w8 (of_z w8 r)) ∙ long;
      made = made_more (λ (t : ℕ) (v : ℤ).
          v ≡ clamped_sample ((pos SUBCELLS *ℤ int_max (here t) across) -ℤ pos (SUBCELLS / 2)))
          c.loop-t.value-items c.loop-t.t (to_z w8 (of_z w8 r)) (omega (arith, long)) made
          c.loop-t.invariant.made;
    }
