-- The planes' bits, less the middle one, are the rim's.
use Rattle.octree.proofs.RimLemmas.{rim-planes}
use Rattle.octree.proofs.rims.rim_of.Goals as goal

pub returns : goal.returns
returns c =
    rim-planes c.args.levels.now c.args.node c.plane_bits-low.result c.plane_bits-here.result
    c.plane_bits-high.result c.without_middle.result c.plane_bits-low.ensures.value
    c.plane_bits-here.ensures.value c.plane_bits-high.ensures.value c.without_middle.ensures
