-- No cube is larger than the greatest world.
use Rattle.std.proofs.Common.{arith}
use Rattle.lattice.proofs.SizeLemmas.{side_most}
use Rattle.lattice.proofs.node.node_side.Goals as goal

pub returns-clause-most : goal.returns-clause-most
returns-clause-most c = omega (arith, side_most c.args.level c.requires)
