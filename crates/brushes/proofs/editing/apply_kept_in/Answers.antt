-- A ball's radius is at most the side of the largest world.
use Rattle.std.proofs.Common.{arith, subst}
use Rattle.terrain.specs.Brushes.{IsBall, IsLawful}
use Rattle.brushes.proofs.editing.apply_kept_in.Goals as goal

-- a ball's radius is at most the side of its world
pub new-requires : goal.new-requires
new-requires c =
    let depth = c.args.version.now.depth in
    let ball : IsBall depth c.in-Ball.at c.in-Ball.r =
    subst (IsLawful depth) c.in-Ball.is c.requires.lawful in
    omega (arith, ball.most, c.sizes_of_worlds.ensures.side depth c.requires.depth)
