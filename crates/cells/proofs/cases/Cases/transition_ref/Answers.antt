-- The triangles have the keys of the loops.
use Rattle.std.proofs.Common.{◌<◌}
use Rattle.cells.proofs.FanKeys.{All-fan}
use Rattle.cells.proofs.cases.Cases.transition_ref.Goals as goal

pub returns-clause-triangles : goal.returns-clause-triangles
returns-clause-triangles c =
    All-fan (λ key. key < 16) c.transition_case.result.now.loops
    c.transition_case.ensures.loops.below
