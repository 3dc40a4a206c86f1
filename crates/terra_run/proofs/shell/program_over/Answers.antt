-- The texts that are lent are those of the arguments.
use Rattle.std.proofs.Common.{ap, ◌∙◌, subst}
use Rattle.arguments.specs.Request.{texts}
use Rattle.terra_run.specs.Run.{IsExact, IsExactAtLimit}
use Rattle.terra_run.proofs.shell.program_over.Goals as goal

pub returns-clause-exact : goal.returns-clause-exact
returns-clause-exact g c =
    let source = g.S.Source.state in
    let sink = g.K.Sink.state in
    let done = c.program in
    subst (λ arguments. IsExact arguments (source c.args.source.now) (source done.new.source)
    (sink c.args.sink.now) (sink done.new.sink) done.result)
    (ap texts c.deref.ensures.value ∙ c.in_ok-lent.ensures) done.ensures.exact

pub returns-clause-limit : goal.returns-clause-limit
returns-clause-limit g c =
    let source = g.S.Source.state in
    let sink = g.K.Sink.state in
    let done = c.program in
    subst (λ arguments. IsExactAtLimit arguments (source c.args.source.now)
    (source done.new.source) (sink c.args.sink.now) (sink done.new.sink) done.result)
    (ap texts c.deref.ensures.value ∙ c.in_ok-lent.ensures) done.ensures.limit
