-- The sample of an even leaf is that of its low corner.
use Rattle.std.proofs.Common.{ℤ, w8, sym, subst}
use Rattle.std.proofs.lemmas.Int.{to_z-of_z}
use Rattle.terrain.specs.Samples.{IsSample}
use Rattle.field_pages.specs.Pages.{sample_at}
use Rattle.bricks.specs.Samples.{AreSamplesOf}
use Rattle.bricks.specs.declared.samples.Samples.TheVariants.{Even}
use Rattle.bricks.proofs.EvenLemmas.{even-item, even-range}
use Rattle.bricks.proofs.brick.samples_of.Goals as goal

pub returns-then-is_seen_even-clause-samples : goal.returns-then-is_seen_even-clause-samples
returns-then-is_seen_even-clause-samples c =
    let s = sample_at c.args.version.now in
    let are : ℤ → Type 0 = λ v. AreSamplesOf s c.args.leaf c.args.rim (Even v) in
    subst are (sym (even-item s c.args.leaf c.low_corner.result c.sample.result
    c.low_corner.ensures c.sample.ensures.value (record { sfits = c.sample.type_inv })))
    (c.is_seen_even.ensures c.if-is_seen_even.true)

pub returns-then-is_seen_even-clause-range : goal.returns-then-is_seen_even-clause-range
returns-then-is_seen_even-clause-range c =
    even-range c.args.rim _ (subst IsSample
    (sym (to_z-of_z w8 c.sample.result (record { sfits = c.sample.type_inv })))
    c.sample.ensures.range)
