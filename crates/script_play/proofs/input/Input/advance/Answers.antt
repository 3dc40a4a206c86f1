-- By the line that was cut last, and whether it is blank.
use Rattle.std.proofs.Common.{ap, sym, subst, ◌∙◌, Ok}
use Rattle.std.proofs.lemmas.Result.{err_from_is_err_and}
use Rattle.camera_script.specs.Line.{is_blank}
use Rattle.script_play.specs.Input.{CutsOne}
use Rattle.script_play.proofs.InputLemmas.{kept_other, skipped_blank, Went-end, Went-keep, Went-skip, Went-stops}
use Rattle.script_play.proofs.input.Input.advance.Goals as goal

pub returns-in_err-next_line-clause-goes_on : goal.returns-in_err-next_line-clause-goes_on
returns-in_err-next_line-clause-goes_on g c =
    let state = g.S.Source.state in
    let p = err_from_is_err_and c.from_residual.result c.from_residual.ensures.1 in
    let cut = c.in_err-next_line.ensures.cuts in
    rw (p.1, p.2) (Went-stops c.args.self.now c.loop-self.self c.next_line.new.self
    (state c.args.source.now) (state c.loop-self.source) (state c.next_line.new.source) cut.0
    c.in_err-next_line.field-0.0 c.loop-self.invariant cut.1 cut.2)

pub returns-then-not-is_blank-clause-goes_on : goal.returns-then-not-is_blank-clause-goes_on
returns-then-not-is_blank-clause-goes_on g c =
    let state = g.S.Source.state in
    let cut = c.in_ok-next_line.ensures.cuts in
    let new = c.next_line.new.self in
    let one = subst (λ b. CutsOne c.loop-self.self new cut.0 (state c.loop-self.source)
    (state c.next_line.new.source) (Ok b)) c.if-branch.true cut.2 in
    Went-keep c.args.self.now c.loop-self.self new (state c.args.source.now)
    (state c.loop-self.source) (state c.next_line.new.source) cut.0 c.loop-self.invariant cut.1 one
    (kept_other new.held.line
    (sym (c.is_blank.ensures ∙ ap is_blank c.line.ensures) ∙ c.if-not-is_blank.true))

pub loop-self-preserved : goal.loop-self-preserved
loop-self-preserved g c =
    let state = g.S.Source.state in
    let cut = c.in_ok-next_line.ensures.cuts in
    let new = c.next_line.new.self in
    let one = subst (λ b. CutsOne c.loop-self.self new cut.0 (state c.loop-self.source)
    (state c.next_line.new.source) (Ok b)) c.if-branch.true cut.2 in
    Went-skip c.args.self.now c.loop-self.self new (state c.args.source.now)
    (state c.loop-self.source) (state c.next_line.new.source) cut.0 c.loop-self.invariant cut.1 one
    (skipped_blank new.held.line one.2
    (sym (c.is_blank.ensures ∙ ap is_blank c.line.ensures) ∙ c.if-not-is_blank.false))

pub returns-clause-goes_on : goal.returns-clause-goes_on
returns-clause-goes_on g c =
    let state = g.S.Source.state in
    let cut = c.in_ok-next_line.ensures.cuts in
    Went-end c.args.self.now c.loop-self.self c.next_line.new.self (state c.args.source.now)
    (state c.loop-self.source) (state c.next_line.new.source) cut.0 c.loop-self.invariant cut.1
    (subst (λ b. CutsOne c.loop-self.self c.next_line.new.self cut.0 (state c.loop-self.source)
    (state c.next_line.new.source) (Ok b)) c.if-branch.false cut.2)
