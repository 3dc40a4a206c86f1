-- It is that of the frame's field.
use Rattle.std.proofs.Common.{ap, ◌∙◌}
use Rattle.terra_c.specs.Blocks.{normal_in}
use Rattle.terra_c.specs.Shapes.{c_normal}
use Rattle.terra_c.proofs.copying.normal_at.Goals as goal

pub returns : goal.returns
unfolding normal_in
returns c = c.of.ensures ∙ ap c_normal c.normal.ensures
