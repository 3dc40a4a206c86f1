-- To make an editor keeps the rule.
use Rattle.editors.proofs.PassLemmas.{makes}
use Rattle.editors.proofs.mail.Mail.make.Goals as goal

pub another-requires-clause-rule : goal.another-requires-clause-rule
another-requires-clause-rule c =
    let of = c.requires.pass in makes _ _ of.takes of.sends c.requires.none_in
