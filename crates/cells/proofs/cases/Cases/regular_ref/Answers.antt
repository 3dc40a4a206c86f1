-- The triangles have the keys of the loops.
use Rattle.std.proofs.Common.{◌<◌}
use Rattle.cells.proofs.FanKeys.{All-fan}
use Rattle.cells.proofs.cases.Cases.regular_ref.Goals as goal

pub returns-clause-triangles : goal.returns-clause-triangles
returns-clause-triangles c =
    All-fan (λ key. key < 12) c.regular_case.result.now.loops
    c.regular_case.ensures.loops.below
