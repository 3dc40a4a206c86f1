-- The sum fits its type, and an eighth of it is a sample.
use Rattle.std.proofs.Common.{◌≡◌, ℤ, pos, ap, ◌∙◌, sym, subst, FitsSigned, w8, to_z, of_z}
use Rattle.std.proofs.lemmas.Int.{to_z-of_z}
use Rattle.std.specs.Int.{int_div_euclid}
use Rattle.terrain.specs.Samples.{IsSample}
use Rattle.brushes.proofs.SmoothingLemmas.{sum_code_fits, sum_code_is, sample_fits, sample_is, IsSample-eighth, same_eighth}
use Rattle.brushes.proofs.smoothing.eighth.Goals as goal

-- the sample as it was passed
same_sample : (s r : ℤ) → IsSample s → FitsSigned w8 s → r ≡ to_z w8 (of_z w8 s)
    → (r ≡ s) × IsSample r
same_sample s r is_sample fits r_is =
    let same : r ≡ s = r_is ∙ to_z-of_z w8 s fits in
    (same, subst IsSample (sym same) is_sample)

pub overflow_add-sum-3 : goal.overflow_add-sum-3
overflow_add-sum-3 c =
    let s = same_sample c.args.sample c.from.result c.requires.sample c.ranges.sample c.from.ensures
    in
    sum_code_fits c.from.result c.pair.result c.pair-2.result c.pair-3.result s.1
    c.pair.ensures.range c.pair-2.ensures.range c.pair-3.ensures.range

pub overflow_cast-result : goal.overflow_cast-result
overflow_cast-result c =
    let s = same_sample c.args.sample c.from.result c.requires.sample c.ranges.sample c.from.ensures
    in
    let sum_is =
    sum_code_is c.from.result c.pair.result c.pair-2.result c.pair-3.result s.1
    c.pair.ensures.range c.pair-2.ensures.range c.pair-3.ensures.range in
    let is_sample : IsSample c.div_euclid.result =
    subst IsSample (sym (c.div_euclid.ensures ∙ ap (λ a. int_div_euclid a (pos 8)) sum_is))
    (IsSample-eighth c.from.result c.pair.result c.pair-2.result c.pair-3.result
    c.samples_stay_in_range.ensures.eighth s.1 c.pair.ensures.range c.pair-2.ensures.range
    c.pair-3.ensures.range) in
    sample_fits c.div_euclid.result is_sample

pub returns : goal.returns
returns c =
    let s = same_sample c.args.sample c.from.result c.requires.sample c.ranges.sample c.from.ensures
    in
    let sum_is =
    sum_code_is c.from.result c.pair.result c.pair-2.result c.pair-3.result s.1
    c.pair.ensures.range c.pair-2.ensures.range c.pair-3.ensures.range in
    let value = c.div_euclid.ensures ∙ ap (λ a. int_div_euclid a (pos 8)) sum_is in
    let is_sample : IsSample c.div_euclid.result = subst IsSample (sym value)
    (IsSample-eighth c.from.result c.pair.result c.pair-2.result c.pair-3.result
    c.samples_stay_in_range.ensures.eighth s.1 c.pair.ensures.range c.pair-2.ensures.range
    c.pair-3.ensures.range) in
    let parts =
    same_eighth c.from.result c.args.sample c.pair.result _ c.pair-2.result _ c.pair-3.result _
    s.0 c.pair.ensures.value c.pair-2.ensures.value c.pair-3.ensures.value in
    record {
      value = sample_is c.div_euclid.result is_sample ∙ value ∙ parts;
      range = subst IsSample (sym (sample_is c.div_euclid.result is_sample)) is_sample;
    }
