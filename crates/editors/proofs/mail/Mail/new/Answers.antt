-- A new queue keeps the rule.
use Rattle.editors.proofs.PassLemmas.{begins}
use Rattle.editors.proofs.mail.Mail.new.Goals as goal

pub ruled-requires-clause-rule : goal.ruled-requires-clause-rule
ruled-requires-clause-rule c = begins
