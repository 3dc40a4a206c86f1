-- By what was found in the arguments, and how that was carried out.
use Rattle.std.proofs.Common.{ap, subst, sym}
use Rattle.arguments.specs.Request.{texts}
use Rattle.arguments.specs.declared.request.Request.TheVariants as requests
use Rattle.terra_run.specs.Performed.{IsPerformed, ReadsNothing}
use Rattle.terra_run.proofs.ExactLemmas.{bad_words-status}
use Rattle.terra_run.proofs.PerformLemmas.{exact-performed, limit-performed, performed-nothing, performed-ran}
use Rattle.terra_run.proofs.RequestLemmas.{one_request}
use Rattle.terra_run.proofs.SeamlessLemmas.{seamless-written}
use Rattle.terra_run.proofs.top.run.Goals as goal

pub returns-clause-table : goal.returns-clause-table
returns-clause-table g c =
    let source = g.S.Source.state in
    let sink = g.K.Sink.state in
    let done = c.perform-status in
    performed-ran (texts c.args.arguments.now) c.request_in.result (source c.args.source.now)
    (source done.new.source) (sink c.args.sink.now) (sink done.new.sink) done.result
    c.request_in.ensures.asked done.ensures.done
    (λ nothing. ap source (done.ensures.unread nothing))
    (λ nothing. ap sink (done.ensures.unwritten nothing))

pub returns-clause-exact : goal.returns-clause-exact
returns-clause-exact g c =
    let source = g.S.Source.state in
    let sink = g.K.Sink.state in
    let done = c.perform-status in
    let arguments = texts c.args.arguments.now in
    exact-performed arguments (source c.args.source.now) (source done.new.source)
    (sink c.args.sink.now) (sink done.new.sink) done.result
    (one_request arguments c.request_in.result c.request_in.ensures.asked)
    (returns-clause-table g c)

pub returns-clause-limit : goal.returns-clause-limit
returns-clause-limit g c =
    let source = g.S.Source.state in
    let sink = g.K.Sink.state in
    let done = c.perform-status in
    let arguments = texts c.args.arguments.now in
    limit-performed arguments (source c.args.source.now) (source done.new.source)
    (sink c.args.sink.now) (sink done.new.sink) done.result
    (one_request arguments c.request_in.result c.request_in.ensures.asked)
    (returns-clause-table g c)

pub returns-clause-bad_words : goal.returns-clause-bad_words
returns-clause-bad_words g c =
    let source = g.S.Source.state in
    let sink = g.K.Sink.state in
    let done = c.perform-status in
    λ other. bad_words-status (texts c.args.arguments.now) (source c.args.source.now)
    (source done.new.source) (sink c.args.sink.now) (sink done.new.sink) done.result
    (returns-clause-table g c (other requests.Mirror _)) other

pub returns-clause-untouched : goal.returns-clause-untouched
returns-clause-untouched g c = λ is.
    let source = g.S.Source.state in
    let sink = g.K.Sink.state in
    let done = c.perform-status in
    let nothing = performed-nothing c.request_in.result (source c.args.source.now)
    (source done.new.source) (sink c.args.sink.now) (sink done.new.sink) done.result
    done.ensures.done is in (
      done.ensures.unread nothing.1,
      done.ensures.unwritten nothing.0,
    )

pub returns-clause-drill : goal.returns-clause-drill
returns-clause-drill g c = λ asked is.
    let source = g.S.Source.state in
    let sink = g.K.Sink.state in
    let done = c.perform-status in
    let found = (c.request_in.ensures.asked (requests.Drill asked)).0 is in (
      subst (λ one. IsPerformed one (source c.args.source.now) (source done.new.source)
          (sink c.args.sink.now) (sink done.new.sink) done.result) found done.ensures.done,
      done.ensures.unread (subst ReadsNothing (sym found) _),
    )

pub returns-clause-edit : goal.returns-clause-edit
returns-clause-edit g c = λ asked is.
    let source = g.S.Source.state in
    let sink = g.K.Sink.state in
    let done = c.perform-status in
    let found = (c.request_in.ensures.asked (requests.Edit asked)).0 is in (
      subst (λ one. IsPerformed one (source c.args.source.now) (source done.new.source)
          (sink c.args.sink.now) (sink done.new.sink) done.result) found done.ensures.done,
      done.ensures.unread (subst ReadsNothing (sym found) _),
    )

pub returns-clause-mirror : goal.returns-clause-mirror
returns-clause-mirror g c = λ asked.
    let source = g.S.Source.state in
    let sink = g.K.Sink.state in
    let done = c.perform-status in
    subst (λ one. IsPerformed one (source c.args.source.now) (source done.new.source)
    (sink c.args.sink.now) (sink done.new.sink) done.result)
    ((c.request_in.ensures.asked requests.Mirror).0 asked) done.ensures.done

pub returns-clause-seamless : goal.returns-clause-seamless
returns-clause-seamless g c =
    let source = g.S.Source.state in
    let sink = g.K.Sink.state in
    let done = c.perform-status in
    λ text other. seamless-written c.histories_are_seamless.ensures (texts c.args.arguments.now)
    (source c.args.source.now) (source done.new.source) (sink c.args.sink.now)
    (sink done.new.sink) done.result text (returns-clause-table g c other)
