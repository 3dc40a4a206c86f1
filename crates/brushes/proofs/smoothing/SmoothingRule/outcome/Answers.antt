-- A page with one sample around is left as it is.
use Rattle.std.proofs.Common.{subst, sym, ◌∙◌}
use Rattle.terrain.specs.Samples.{IsSample}
use Rattle.brushes.proofs.ShapeLemmas.{sample_is}
use Rattle.brushes.proofs.smoothing.SmoothingRule.outcome.Goals as goal

pub returns-then-has_one_sample_around : goal.returns-then-has_one_sample_around
returns-then-has_one_sample_around c p within =
    let v_is = sample_is c.sample.result c.sample.ensures.range in
    record {
      given = v_is ∙ c.sample.ensures.value
          ∙ c.has_one_sample_around.ensures c.if-has_one_sample_around.true p
          (c.requires.takes p within).0
          (c.is_in_one_page.ensures c.if-is_in_one_page.true p within);
      is_sample = subst IsSample (sym v_is) c.sample.ensures.range;
    }
