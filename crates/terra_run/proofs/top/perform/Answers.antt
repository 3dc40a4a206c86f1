-- By what is asked for.
use Rattle.std.proofs.Common.{Some, ap, length, sym, ◌∙◌, subst, refl}
use Rattle.terra_run.specs.Performed.{DoesNothing, IsPerformed, ReadsNothing}
use Rattle.script_play.specs.Play.{Plays}
use Rattle.requests.specs.Texts.{text_in}
use Rattle.script_play.specs.Script.{said_by}
use Rattle.requests.specs.declared.form.Form.TheVariants as forms
use Rattle.script_play.specs.declared.status.Status.TheVariants.{BadWords}
use Rattle.terra_run.proofs.top.perform.Goals as goal

pub returns-in-Run-clause-done : goal.returns-in-Run-clause-done
returns-in-Run-clause-done g c =
    let source = g.S.Source.state in
    let sink = g.K.Sink.state in
    let done = c.carry_out_script in
    subst (λ asked. IsPerformed asked (source c.args.source.now) (source done.new.source)
    (sink c.args.sink.now) (sink done.new.sink) c.of.result)
    (sym (c.in-Some.is ∙ ap Some c.in-Run.is))
    (subst (Plays length said_by (text_in (forms.Text c.in-Run.options)) (source c.args.source.now)
    (source done.new.source) (sink c.args.sink.now) (sink done.new.sink)) (sym c.of.ensures)
    done.ensures)

pub returns-in-Run-clause-unread : goal.returns-in-Run-clause-unread
returns-in-Run-clause-unread g c = λ nothing.
    absurd (subst ReadsNothing (c.in-Some.is ∙ ap Some c.in-Run.is) nothing)

pub returns-in-Run-clause-unwritten : goal.returns-in-Run-clause-unwritten
returns-in-Run-clause-unwritten g c = λ nothing.
    absurd (subst DoesNothing (c.in-Some.is ∙ ap Some c.in-Run.is) nothing)

pub returns-in-Wire-clause-done : goal.returns-in-Wire-clause-done
returns-in-Wire-clause-done g c =
    let source = g.S.Source.state in
    let sink = g.K.Sink.state in
    let done = c.carry_out_script-in-Wire in
    subst (λ asked. IsPerformed asked (source c.args.source.now) (source done.new.source)
    (sink c.args.sink.now) (sink done.new.sink) c.of-in-Wire.result)
    (sym (c.in-Some.is ∙ ap Some c.in-Wire.is))
    (subst (Plays length said_by (text_in forms.Wire) (source c.args.source.now)
    (source done.new.source) (sink c.args.sink.now) (sink done.new.sink)) (sym c.of-in-Wire.ensures)
    done.ensures)

pub returns-in-Wire-clause-unread : goal.returns-in-Wire-clause-unread
returns-in-Wire-clause-unread g c = λ nothing.
    absurd (subst ReadsNothing (c.in-Some.is ∙ ap Some c.in-Wire.is) nothing)

pub returns-in-Wire-clause-unwritten : goal.returns-in-Wire-clause-unwritten
returns-in-Wire-clause-unwritten g c = λ nothing.
    absurd (subst DoesNothing (c.in-Some.is ∙ ap Some c.in-Wire.is) nothing)

pub returns-in-Mirror-clause-done : goal.returns-in-Mirror-clause-done
returns-in-Mirror-clause-done g c =
    let source = g.S.Source.state in
    let sink = g.K.Sink.state in
    subst (λ asked. IsPerformed asked (source c.args.source.now)
    (source c.carry_out_mirror.new.source) (sink c.args.sink.now)
    (sink c.carry_out_mirror.new.sink) c.carry_out_mirror.result)
    (sym (c.in-Some.is ∙ ap Some c.in-Mirror.is)) c.carry_out_mirror.ensures

pub returns-in-Mirror-clause-unread : goal.returns-in-Mirror-clause-unread
returns-in-Mirror-clause-unread g c = λ nothing.
    absurd (subst ReadsNothing (c.in-Some.is ∙ ap Some c.in-Mirror.is) nothing)

pub returns-in-Mirror-clause-unwritten : goal.returns-in-Mirror-clause-unwritten
returns-in-Mirror-clause-unwritten g c = λ nothing.
    absurd (subst DoesNothing (c.in-Some.is ∙ ap Some c.in-Mirror.is) nothing)

pub returns-in-Drill-clause-done : goal.returns-in-Drill-clause-done
returns-in-Drill-clause-done g c =
    let source = g.S.Source.state in
    let sink = g.K.Sink.state in
    subst (λ asked. IsPerformed asked (source c.args.source.now) (source c.args.source.now)
    (sink c.args.sink.now) (sink c.carry_out_drill.new.sink) c.carry_out_drill.result)
    (sym (c.in-Some.is ∙ ap Some c.in-Drill.is)) c.carry_out_drill.ensures

pub returns-in-Drill-clause-unwritten : goal.returns-in-Drill-clause-unwritten
returns-in-Drill-clause-unwritten g c = λ nothing.
    absurd (subst DoesNothing (c.in-Some.is ∙ ap Some c.in-Drill.is) nothing)

pub returns-in-Edit-clause-done : goal.returns-in-Edit-clause-done
returns-in-Edit-clause-done g c =
    let source = g.S.Source.state in
    let sink = g.K.Sink.state in
    subst (λ asked. IsPerformed asked (source c.args.source.now) (source c.args.source.now)
    (sink c.args.sink.now) (sink c.carry_out_editing.new.sink) c.carry_out_editing.result)
    (sym (c.in-Some.is ∙ ap Some c.in-Edit.is)) c.carry_out_editing.ensures

pub returns-in-Edit-clause-unwritten : goal.returns-in-Edit-clause-unwritten
returns-in-Edit-clause-unwritten g c = λ nothing.
    absurd (subst DoesNothing (c.in-Some.is ∙ ap Some c.in-Edit.is) nothing)

pub returns-in-Help-clause-done : goal.returns-in-Help-clause-done
returns-in-Help-clause-done g c =
    let source = g.S.Source.state c.args.source.now in
    let sink = g.K.Sink.state c.args.sink.now in
    subst (λ asked. IsPerformed asked source source sink sink BadWords)
    (sym (c.in-Some.is ∙ ap Some c.in-Help.is)) refl

pub returns-in-Version-clause-done : goal.returns-in-Version-clause-done
returns-in-Version-clause-done g c =
    let source = g.S.Source.state c.args.source.now in
    let sink = g.K.Sink.state c.args.sink.now in
    subst (λ asked. IsPerformed asked source source sink sink BadWords)
    (sym (c.in-Some.is ∙ ap Some c.in-Version.is)) refl

pub returns-in_default-clause-done : goal.returns-in_default-clause-done
returns-in_default-clause-done g c =
    let source = g.S.Source.state c.args.source.now in
    let sink = g.K.Sink.state c.args.sink.now in
    subst (λ asked. IsPerformed asked source source sink sink BadWords)
    (sym c.in_default.is) refl
