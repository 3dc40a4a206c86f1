-- No world is larger than the greatest.
use Rattle.std.proofs.Common.{arith}
use Rattle.lattice.proofs.SizeLemmas.{side_most}
use Rattle.lattice.proofs.settings.Settings.world_side.Goals as goal

pub returns-clause-most : goal.returns-clause-most
returns-clause-most c = omega (arith, side_most c.args.self.now.depth c.requires)
