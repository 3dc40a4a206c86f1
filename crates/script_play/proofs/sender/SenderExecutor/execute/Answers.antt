-- An event writes nothing, and leaves the same to send. An output command writes what it is to write, and leaves the
-- rest.
use Rattle.std.proofs.Common.{◌≤◌, ◌∷◌, ◌∙◌, ap, length, subst, sym}
use Rattle.std.proofs.lemmas.Result.{err_from_is_err_and}
use Rattle.mesh_board.specs.Board.{BoardState}
use Rattle.mesh_out.specs.Writing.{Writes}
use Rattle.mesh_out.proofs.WritingLemmas.{StopsWriting-none, Writes-none}
use Rattle.script_play.specs.Sender.{left_to_send}
use Rattle.script_play.proofs.SenderLemmas.{left-event, output-carried, output-kept, output-stopped}
use Rattle.script_play.proofs.sender.SenderExecutor.execute.Goals as goal

pub returns-in_ok-apply-in-Event-clause-carried :
    goal.returns-in_ok-apply-in-Event-clause-carried
returns-in_ok-apply-in-Event-clause-carried g c = λ rest.
    let sink = g.K.Sink.state c.args.sink.now in
    let old = c.args.self.now in
    let new = c.apply.new.self in
    let done = c.in_ok-apply-in-Event.ensures in
    let fits : old.marked ≤ length old.world.events =
    subst (λ (b : BoardState). b.marked ≤ length b.world.events) c.self.view_is
    c.world-world.ensures.board.marked in
    subst (λ t. Writes sink sink t (left_to_send new rest))
    (sym (ap (λ command. left_to_send old (command ∷ rest)) c.in-Event.is
    ∙ left-event old new c.in-Event.event rest fits done.settings done.events done.marked))
    (Writes-none sink (left_to_send new rest))

pub returns-in_err-apply-in-Event-clause-stopped :
    goal.returns-in_err-apply-in-Event-clause-stopped
returns-in_err-apply-in-Event-clause-stopped g c =
    let p = err_from_is_err_and c.from_residual.result c.from_residual.ensures.1 in
    rw (p.1, p.2) (λ rest. StopsWriting-none (g.K.Sink.state c.args.sink.now) _)

pub returns-in-Shot-clause-carried : goal.returns-in-Shot-clause-carried
returns-in-Shot-clause-carried g c =
    let sink = g.K.Sink.state in
    let sent = c.send.ensures in
    output-carried c.send.result c.args.self.now c.send.new.self c.args.command.now
    (sink c.args.sink.now) (sink c.send.new.sink) c.in-Shot.is sent.sent sent.faultless sent.world
    sent.marked

pub returns-in-Shot-clause-events : goal.returns-in-Shot-clause-events
returns-in-Shot-clause-events g c =
    output-kept c.send.result c.args.self.now c.send.new.self c.args.command.now c.in-Shot.is
    c.send.ensures.world

pub returns-in-Shot-clause-stopped : goal.returns-in-Shot-clause-stopped
returns-in-Shot-clause-stopped g c =
    let sink = g.K.Sink.state in
    output-stopped c.send.result c.args.self.now c.args.command.now (sink c.args.sink.now)
    (sink c.send.new.sink) c.in-Shot.is c.send.ensures.stopped
