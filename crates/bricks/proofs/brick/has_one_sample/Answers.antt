-- The sample at the low corner is that of an even leaf.
use Rattle.std.proofs.Common.{◌≡◌, ℤ, to_z, of_z, w8, refl, sym, ap, ◌∙◌, subst}
use Rattle.std.proofs.lemmas.Bool.{false≢true}
use Rattle.std.proofs.lemmas.Int.{to_z-of_z}
use Rattle.lattice.specs.Node.{low_corner}
use Rattle.field_pages.specs.Pages.{sample_at}
use Rattle.bricks.specs.Samples.{AreSamplesOf}
use Rattle.bricks.specs.declared.samples.Samples.TheVariants.{Even}
use Rattle.bricks.proofs.EvenLemmas.{even-item, even-samples, first-sample}
use Rattle.bricks.proofs.brick.has_one_sample.Goals as goal

pub returns-then-sample : goal.returns-then-sample
returns-then-sample c =
    let s = sample_at c.args.version.now in (
      (λ t. absurd (false≢true t)),
      (λ are. absurd (c.if-sample.true (ap (of_z w8) (c.sample.ensures.value
          ∙ ap s c.low_corner.ensures
          ∙ sym (first-sample s c.args.leaf c.args.rim c.args.sample are))))),
    )

pub returns-then-is_even_leaf : goal.returns-then-is_even_leaf
returns-then-is_even_leaf c =
    let s = sample_at c.args.version.now in
    let is : c.args.sample ≡ s (low_corner c.args.leaf) =
    sym (to_z-of_z w8 c.args.sample c.ranges.sample) ∙ ap (to_z w8) (sym c.if-sample.false)
    ∙ even-item s c.args.leaf c.low_corner.result c.sample.result c.low_corner.ensures
    c.sample.ensures.value (record { sfits = c.sample.type_inv }) in (
      (λ _. even-samples s c.args.leaf c.args.rim c.args.sample is c.requires.level
          (c.is_even_leaf.ensures c.if-is_even_leaf.true)),
      (λ _. refl),
    )

pub returns : goal.returns
returns c =
    let s = sample_at c.args.version.now in
    let item = to_z-of_z w8 c.args.sample c.ranges.sample in
    let are : ℤ → Type 0 = λ v. AreSamplesOf s c.args.leaf c.args.rim (Even v) in (
      (λ on. subst are item (c.has_one_sample_by_points.ensures.0 on)),
      (λ all. c.has_one_sample_by_points.ensures.1 (subst are (sym item) all)),
    )
