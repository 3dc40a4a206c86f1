-- The square of a number up to the side is at most the side's.
use Rattle.std.proofs.Common.{◌≤◌, arith}
use Rattle.std.proofs.lemmas.Nat.{mul-le}
use Rattle.brushes.specs.declared.shape.TheConstants.{FAR}
use Rattle.brushes.proofs.ball.square_apart.Goals as goal

pub returns-clause-most : goal.returns-clause-most
returns-clause-most c =
    let apart = c.abs_diff-apart.result in
    let most : apart ≤ FAR = omega (arith, c.abs_diff-apart.ensures) in
    mul-le apart apart FAR FAR most most
