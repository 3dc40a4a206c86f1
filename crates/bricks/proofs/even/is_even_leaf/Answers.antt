-- The sample that all points have is that of the low corner.
use Rattle.std.proofs.Common.{◌∙◌}
use Rattle.field_pages.specs.Pages.{sample_at}
use Rattle.bricks.proofs.EvenLemmas.{even-item}
use Rattle.bricks.proofs.even.is_even_leaf.Goals as goal

pub returns-then-sample : goal.returns-then-sample
returns-then-sample c = λ on p cube.
    let s = sample_at c.args.version.now in
    c.has_alike_pages.ensures on p cube
    ∙ even-item s c.args.leaf c.low_corner.result c.sample-sample.result c.low_corner.ensures
    c.sample-sample.ensures.value (record { sfits = c.sample-sample.type_inv })
