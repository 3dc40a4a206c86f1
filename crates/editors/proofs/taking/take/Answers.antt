-- To take a note keeps the rule.
use Rattle.editors.proofs.PassLemmas.{gathers}
use Rattle.editors.proofs.RuleLemmas.{pops}
use Rattle.editors.proofs.taking.take.Goals as goal

pub pop_as-requires-clause-rule : goal.pop_as-requires-clause-rule
pop_as-requires-clause-rule g c =
    let of = c.requires.clerk.pass in (pops _ _ of.takes of.sends, gathers _ _)
