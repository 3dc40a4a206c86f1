-- The code computes the value without a loss.
use Rattle.std.proofs.Common.{arith}
use Rattle.std.proofs.lemmas.Int.{ints, clamps}
use Rattle.brushes.proofs.shape.clamped_value.Goals as goal

pub returns-clause-value : goal.returns-clause-value
returns-clause-value c =
    let few_is = c.clamp-few.ensures.value in
    let value_is = c.clamp.ensures.value in
    let greatest_is = c.from-greatest.ensures in
    omega (arith, ints, clamps)
