-- Each page has the greatest sample at its corner too.
use Rattle.field_pages.proofs.CornerLemmas.{corners-empty}
use Rattle.field_pages.proofs.layer.Layer.empty.Goals as goal

pub invariant_of-result : goal.invariant_of-result
invariant_of-result c =
    corners-empty c.in_ok-pages.pages c.in_ok-corners.corners.items _
    (c.in_ok-corners.ensures.items_if_clones_equal (λ s same. same))
    c.in_ok-pages.ensures.len c.in_ok-pages.ensures.samples
