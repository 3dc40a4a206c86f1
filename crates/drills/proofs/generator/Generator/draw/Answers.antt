-- The next state is by definition so.
use Rattle.std.proofs.Common.{refl}
use Rattle.drills.specs.Drill.{next_state}
use Rattle.drills.proofs.generator.Generator.draw.Goals as goal

pub returns-clause-value : goal.returns-clause-value
unfolding next_state
returns-clause-value c = refl
