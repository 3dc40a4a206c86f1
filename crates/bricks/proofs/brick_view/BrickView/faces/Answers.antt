-- A brick keeps the range of its finer samples.
use Rattle.std.proofs.Common.{subst}
use Rattle.bricks.specs.Brick.{IsBrick}
use Rattle.bricks.proofs.SampleLemmas.{IsBrick-field}
use Rattle.bricks.proofs.brick_view.BrickView.faces.Goals as goal

pub returns-clause-field : goal.returns-clause-field
returns-clause-field c =
    IsBrick-field c.args.self.now (subst IsBrick c.self.view_is c.self.invariant)
