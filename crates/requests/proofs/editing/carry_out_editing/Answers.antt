-- Where memory runs out nothing is written.
use Rattle.requests.proofs.EditingLemmas.{edited-nothing}
use Rattle.requests.proofs.editing.carry_out_editing.Goals as goal

pub returns-in_default : goal.returns-in_default
returns-in_default g c = edited-nothing c.args.asked (g.K.Sink.state c.args.sink.now)
