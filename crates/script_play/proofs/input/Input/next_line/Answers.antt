-- One more piece was read.
use Rattle.std.proofs.Common.{subst, Ok}
use Rattle.script_play.specs.Input.{ReadsPiece}
use Rattle.script_play.proofs.InputLemmas.{Read-more}
use Rattle.script_play.proofs.input.Input.next_line.Goals as goal

pub loop-self-preserved : goal.loop-self-preserved
loop-self-preserved g c =
    let state = g.S.Source.state in
    let read = c.in_ok-read.ensures.read in
    let more = subst (λ b. ReadsPiece c.cut.new.self c.read.new.self read.0
    (state c.loop-self.source) (state c.read.new.source) (Ok b)) c.if-not-branch.false read.1 in
    Read-more c.args.self.now c.loop-self.self c.cut.new.self c.read.new.self
    (state c.args.source.now) (state c.loop-self.source) (state c.read.new.source) read.0
    c.loop-self.invariant c.in-More.ensures more
