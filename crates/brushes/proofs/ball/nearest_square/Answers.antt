-- The square of a number up to the side is at most the side's.
use Rattle.std.proofs.Common.{◌≤◌, arith}
use Rattle.std.proofs.lemmas.Nat.{mul-le}
use Rattle.lattice.specs.declared.settings.TheConstants.{MAX_SIDE}
use Rattle.brushes.proofs.ball.nearest_square.Goals as goal

pub returns-clause-most : goal.returns-clause-most
returns-clause-most c =
    let apart = c.max-apart.result in
    let most : apart ≤ MAX_SIDE =
    omega (arith, c.max-apart.ensures, c.saturating_sub.ensures, c.saturating_sub-2.ensures) in
    mul-le apart apart MAX_SIDE MAX_SIDE most most
