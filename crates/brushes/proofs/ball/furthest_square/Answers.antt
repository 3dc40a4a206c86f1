-- The square of a number is at most that of a greater one.
use Rattle.std.proofs.Common.{◌≤◌, ◌+◌, ◌-◌, ℕ, arith}
use Rattle.std.proofs.lemmas.Nat.{mul-le}
use Rattle.brushes.specs.declared.shape.TheConstants.{FAR}
use Rattle.brushes.proofs.ball.furthest_square.Goals as goal

pub returns-clause-greatest : goal.returns-clause-greatest
returns-clause-greatest c d after before =
    let apart = c.max-apart.result in
    let here : ℕ = (d - c.args.c) + (c.args.c - d) in
    let most : here ≤ apart =
    omega (arith, c.max-apart.ensures, c.abs_diff.ensures, c.abs_diff-2.ensures) in
    mul-le here here apart apart most most

pub returns-clause-most : goal.returns-clause-most
returns-clause-most c =
    let apart = c.max-apart.result in
    let most : apart ≤ FAR =
    omega (arith, c.max-apart.ensures, c.abs_diff.ensures, c.abs_diff-2.ensures) in
    mul-le apart apart FAR FAR most most
