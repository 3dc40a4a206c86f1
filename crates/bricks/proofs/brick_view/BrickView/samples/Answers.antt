-- A brick keeps the range of its samples.
use Rattle.std.proofs.Common.{ap, ◌∙◌, length, subst}
use Rattle.terrain.specs.Blocks.{Brick}
use Rattle.bricks.specs.Brick.{IsBrick}
use Rattle.bricks.proofs.BrickLemmas.{brick-leaf_count}
use Rattle.bricks.proofs.SampleLemmas.{IsBrick-field}
use Rattle.bricks.proofs.brick_view.BrickView.samples.Goals as goal

pub returns-clause-count : goal.returns-clause-count
returns-clause-count c =
    let is : IsBrick c.args.self.now = subst IsBrick c.self.view_is c.self.invariant in
    ap length (ap (λ (b : Brick). b.samples) c.self.view_is)
    ∙ brick-leaf_count c.args.self.now is

pub returns-clause-field : goal.returns-clause-field
returns-clause-field c =
    IsBrick-field c.args.self.now (subst IsBrick c.self.view_is c.self.invariant)

pub returns-clause-brick : goal.returns-clause-brick
returns-clause-brick c = subst IsBrick c.self.view_is c.self.invariant
