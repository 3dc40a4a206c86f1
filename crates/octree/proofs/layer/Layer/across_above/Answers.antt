-- No row of a world has more nodes.
use Rattle.std.proofs.Common.{◌+◌, arith}
use Rattle.lattice.proofs.SizeLemmas.{across_most}
use Rattle.octree.proofs.layer.Layer.across_above.Goals as goal

pub returns-clause-high : goal.returns-clause-high
returns-clause-high c =
    omega (
      arith,
      c.nodes_across.ensures,
      across_most c.depth.result (c.self.inside.level + 1) c.depth.ensures.most,
    )
