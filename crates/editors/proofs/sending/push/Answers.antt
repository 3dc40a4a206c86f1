-- To send a note keeps the rule.
use Rattle.editors.proofs.PassLemmas.{ends_with}
use Rattle.editors.proofs.RuleLemmas.{pushes}
use Rattle.editors.proofs.sending.push.Goals as goal

pub push_as-requires-clause-rule : goal.push_as-requires-clause-rule
push_as-requires-clause-rule g c = (pushes _ _ _ _ c.requires.may, ends_with _ _)
