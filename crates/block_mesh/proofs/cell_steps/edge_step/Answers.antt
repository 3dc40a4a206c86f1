-- The entry at the number's place is the step of the edge of that number.
use Rattle.std.proofs.Common.{get_or, ap, ◌∙◌}
use Rattle.block_mesh.specs.declared.cell_steps.TheConstants.{EDGE_STEPS}
use Rattle.block_mesh.proofs.EdgeStepLemmas.{step-in_table}
use Rattle.block_mesh.proofs.cell_steps.edge_step.Goals as goal

pub returns : goal.returns
returns c =
    ap (λ k. get_or EDGE_STEPS k 0) c.from.ensures
    ∙ step-in_table c.args.number c.requires
