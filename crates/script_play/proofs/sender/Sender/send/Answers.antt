-- Where a write failed, the sink has a first part of the patch, as some events weren't sent.
use Rattle.std.proofs.Common.{◌<◌, ◌∙◌, ap, arith, length, subst, sym}
use Rattle.std.proofs.lemmas.Result.{err_from_is_err_and}
use Rattle.mesh_board.specs.Board.{BoardState}
use Rattle.replicas.specs.Grammar.{patch_bytes}
use Rattle.patch_wire.specs.Putting.{CutsOff}
use Rattle.terra_events.specs.World.{WorldState}
use Rattle.script_play.proofs.SenderLemmas.{publication-some}
use Rattle.script_play.proofs.sender.Sender.send.Goals as goal

pub returns-in_err-put_patch-clause-stopped : goal.returns-in_err-put_patch-clause-stopped
returns-in_err-put_patch-clause-stopped g c =
    let sink = g.K.Sink.state in
    let inside = c.self.inside.board in
    let count = ap length (c.events-count.ensures.value
    ∙ ap (λ (w : WorldState). w.events) c.world.ensures.value) in
    let fewer : inside.marked < length inside.world.events = omega (
      arith,
      count,
      c.if-self-count.false,
      c.self.invariant,
      c.world.ensures.board.marked,
    ) in
    let some = subst (λ (b : BoardState). b.marked < length b.world.events) c.self.view_is
    fewer in
    let residual = c.from_residual-in_err-put_patch in
    let p = err_from_is_err_and residual.result residual.ensures.1 in
    rw (p.1, p.2) (subst (CutsOff (sink c.args.sink.now) (sink c.put_patch.new.sink))
    (ap patch_bytes c.in_ok-patch.ensures.patch ∙ sym (publication-some c.args.self.now some))
    c.in_err-put_patch.ensures.stopped)
