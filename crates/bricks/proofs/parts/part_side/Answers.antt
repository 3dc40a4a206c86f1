-- By the levels.
use Rattle.std.proofs.Common.{arith}
use Rattle.bricks.proofs.PartLemmas.{side-is, side-two}
use Rattle.bricks.proofs.parts.part_side.Goals as goal

pub returns-clause-value : goal.returns-clause-value
returns-clause-value c = side-is c.args.level (omega (arith, c.requires))

pub returns-clause-two : goal.returns-clause-two
returns-clause-two c = side-two c.args.level c.requires
