-- The cube of the next higher level at half of each index holds the node's.
use Rattle.std.proofs.Common.{refl, arith}
use Rattle.lattice.proofs.FamilyLemmas.{Holds-parent, IsNode-parent}
use Rattle.lattice.proofs.node.Node.parent.Goals as goal

pub returns-clause-place : goal.returns-clause-place
returns-clause-place c = (
  IsNode-parent c.args.depth c.args.self.now c.requires.node (omega arith),
  refl,
  Holds-parent c.args.self.now,
)
