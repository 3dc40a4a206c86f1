-- All samples are that of the low corner, by the pages or by the points.
use Rattle.std.proofs.Common.{ℤ, refl, subst}
use Rattle.lattice.specs.Node.{low_corner}
use Rattle.field_pages.specs.Pages.{sample_at}
use Rattle.bricks.specs.Samples.{AreSamplesOf}
use Rattle.bricks.specs.declared.samples.Samples.TheVariants.{Even}
use Rattle.bricks.proofs.EvenLemmas.{even-item, even-samples}
use Rattle.bricks.proofs.brick.is_seen_even.Goals as goal

pub returns-then-leaf-lt-MAX_PAGE_LEVEL : goal.returns-then-leaf-lt-MAX_PAGE_LEVEL
returns-then-leaf-lt-MAX_PAGE_LEVEL c = λ on.
    let s = sample_at c.args.version.now in
    even-samples s c.args.leaf c.args.rim (s (low_corner c.args.leaf)) refl c.requires.level
    (c.is_even_leaf.ensures on)

pub returns : goal.returns
returns c = λ on.
    let s = sample_at c.args.version.now in
    let are : ℤ → Type 0 = λ v. AreSamplesOf s c.args.leaf c.args.rim (Even v) in
    subst are (even-item s c.args.leaf c.low_corner.result c.sample.result c.low_corner.ensures
    c.sample.ensures.value (record { sfits = c.sample.type_inv }))
    (c.has_one_sample_by_points.ensures.0 on)
