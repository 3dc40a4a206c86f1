-- By how the wire was read, and its text written.
use Rattle.std.proofs.Common.{ap, subst, sym, ◌∙◌, Err}
use Rattle.std.proofs.lemmas.Result.{err_from_is_err_and}
use Rattle.mirrors.specs.Mirrored.{IsMirrored, IsMirroredAtLimit, Mirrored}
use Rattle.mirrors.proofs.MirrorLemmas.{cut-below, cut-table, refused-above, refused-below, refused-table, stopped-below, stopped-table, whole-above, written-below, written-table}
use Rattle.mirrors.proofs.mirroring.mirror.Goals as goal

pub returns-in_err-replica-clause-table : goal.returns-in_err-replica-clause-table
returns-in_err-replica-clause-table g c =
    let source = g.S.Source.state in
    let sink = g.K.Sink.state in
    let p = err_from_is_err_and c.from_residual.result c.from_residual.ensures.1 in
    subst (Mirrored (source c.args.source.now) (source c.read_wire.new.source)
    (sink c.args.sink.now) (sink c.args.sink.now)) (sym (p.1 ∙ ap Err p.2))
    (refused-table (source c.args.source.now) (source c.read_wire.new.source) (sink c.args.sink.now)
    c.in_err-replica.field-0.0 c.in_err-replica.ensures)

pub returns-in_err-replica-clause-exact : goal.returns-in_err-replica-clause-exact
returns-in_err-replica-clause-exact g c =
    let source = g.S.Source.state in
    let sink = g.K.Sink.state in
    let p = err_from_is_err_and c.from_residual.result c.from_residual.ensures.1 in
    subst (IsMirrored (source c.args.source.now) (source c.read_wire.new.source)
    (sink c.args.sink.now) (sink c.args.sink.now)) (sym (p.1 ∙ ap Err p.2))
    (refused-below (source c.args.source.now) (source c.read_wire.new.source) (sink c.args.sink.now)
    c.in_err-replica.field-0.0 c.in_err-replica.ensures)

pub returns-in_err-replica-clause-limit : goal.returns-in_err-replica-clause-limit
returns-in_err-replica-clause-limit g c =
    let source = g.S.Source.state in
    let sink = g.K.Sink.state in
    let p = err_from_is_err_and c.from_residual.result c.from_residual.ensures.1 in
    subst (IsMirroredAtLimit (source c.args.source.now) (source c.read_wire.new.source)
    (sink c.args.sink.now) (sink c.args.sink.now)) (sym (p.1 ∙ ap Err p.2))
    (refused-above (source c.args.source.now) (source c.read_wire.new.source) (sink c.args.sink.now)
    c.in_err-replica.field-0.0 c.in_err-replica.ensures)

pub returns-then-not-at_rest-clause-table : goal.returns-then-not-at_rest-clause-table
returns-then-not-at_rest-clause-table g c =
    let source = g.S.Source.state in
    let sink = g.K.Sink.state in
    cut-table (source c.args.source.now) (source c.read_wire.new.source) c.in_ok-replica.replica
    c.in_ok-replica.ensures (sink c.args.sink.now)
    (sym c.at_rest.ensures ∙ c.if-not-at_rest.true)

pub returns-then-not-at_rest-clause-exact : goal.returns-then-not-at_rest-clause-exact
returns-then-not-at_rest-clause-exact g c =
    let source = g.S.Source.state in
    let sink = g.K.Sink.state in
    cut-below (source c.args.source.now) (source c.read_wire.new.source) c.in_ok-replica.replica
    c.in_ok-replica.ensures (sink c.args.sink.now)
    (sym c.at_rest.ensures ∙ c.if-not-at_rest.true)

pub returns-then-not-at_rest-clause-limit : goal.returns-then-not-at_rest-clause-limit
returns-then-not-at_rest-clause-limit g c =
    let source = g.S.Source.state in
    let sink = g.K.Sink.state in
    whole-above (source c.args.source.now) (source c.read_wire.new.source) c.in_ok-replica.replica
    c.in_ok-replica.ensures (sink c.args.sink.now) (sink c.args.sink.now) _

pub returns-in_err-write_replica-clause-table : goal.returns-in_err-write_replica-clause-table
returns-in_err-write_replica-clause-table g c =
    let source = g.S.Source.state in
    let sink = g.K.Sink.state in
    let residual = c.from_residual-in_err-write_replica in
    let p = err_from_is_err_and residual.result residual.ensures.1 in
    subst (Mirrored (source c.args.source.now) (source c.read_wire.new.source)
    (sink c.args.sink.now) (sink c.write_replica.new.sink)) (sym (p.1 ∙ ap Err p.2))
    (stopped-table (source c.args.source.now) (source c.read_wire.new.source)
    c.in_ok-replica.replica c.in_ok-replica.ensures (sink c.args.sink.now)
    (sink c.write_replica.new.sink) (sym c.at_rest.ensures ∙ c.if-not-at_rest.false)
    c.in_err-write_replica.field-0.0 c.in_err-write_replica.ensures.stopped)

pub returns-in_err-write_replica-clause-exact : goal.returns-in_err-write_replica-clause-exact
returns-in_err-write_replica-clause-exact g c =
    let source = g.S.Source.state in
    let sink = g.K.Sink.state in
    let residual = c.from_residual-in_err-write_replica in
    let p = err_from_is_err_and residual.result residual.ensures.1 in
    subst (IsMirrored (source c.args.source.now) (source c.read_wire.new.source)
    (sink c.args.sink.now) (sink c.write_replica.new.sink)) (sym (p.1 ∙ ap Err p.2))
    (stopped-below (source c.args.source.now) (source c.read_wire.new.source)
    c.in_ok-replica.replica c.in_ok-replica.ensures (sink c.args.sink.now)
    (sink c.write_replica.new.sink) (sym c.at_rest.ensures ∙ c.if-not-at_rest.false)
    c.in_err-write_replica.field-0.0 c.in_err-write_replica.ensures.stopped)

pub returns-in_err-write_replica-clause-limit : goal.returns-in_err-write_replica-clause-limit
returns-in_err-write_replica-clause-limit g c =
    let source = g.S.Source.state in
    let sink = g.K.Sink.state in
    whole-above (source c.args.source.now) (source c.read_wire.new.source) c.in_ok-replica.replica
    c.in_ok-replica.ensures (sink c.args.sink.now) (sink c.write_replica.new.sink) _

pub returns-clause-table : goal.returns-clause-table
returns-clause-table g c =
    let source = g.S.Source.state in
    let sink = g.K.Sink.state in
    written-table (source c.args.source.now) (source c.read_wire.new.source)
    c.in_ok-replica.replica c.in_ok-replica.ensures (sink c.args.sink.now)
    (sink c.write_replica.new.sink) (sym c.at_rest.ensures ∙ c.if-not-at_rest.false)
    c.in_ok-write_replica.ensures.text c.in_ok-write_replica.ensures.faultless

pub returns-clause-exact : goal.returns-clause-exact
returns-clause-exact g c =
    let source = g.S.Source.state in
    let sink = g.K.Sink.state in
    written-below (source c.args.source.now) (source c.read_wire.new.source)
    c.in_ok-replica.replica c.in_ok-replica.ensures (sink c.args.sink.now)
    (sink c.write_replica.new.sink) (sym c.at_rest.ensures ∙ c.if-not-at_rest.false)
    c.in_ok-write_replica.ensures.text

pub returns-clause-limit : goal.returns-clause-limit
returns-clause-limit g c =
    let source = g.S.Source.state in
    let sink = g.K.Sink.state in
    whole-above (source c.args.source.now) (source c.read_wire.new.source) c.in_ok-replica.replica
    c.in_ok-replica.ensures (sink c.args.sink.now) (sink c.write_replica.new.sink) _
