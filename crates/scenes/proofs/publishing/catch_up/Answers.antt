-- The frame that is shown is the one of the marked journal.
use Rattle.std.proofs.Common.{arith, rules}
use Rattle.std.proofs.lemmas.Grind.{common_steps}
use Rattle.scenes.proofs.publishing.catch_up.Goals as goal

pub returns-clause-shows : goal.returns-clause-shows
returns-clause-shows g c = record {
  sound = c.publish.ensures.sound;
  settings = search rules;
  journal = grind (arith, common_steps);
}
